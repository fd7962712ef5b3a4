-- What the routines on parts state of their results, which is all of it.
use Rattle.std.specs.Prelude.{ℕ, ◌≡◌, List}
use Rattle.input.specs.Classes.{Tree}
use Rattle.drawing.specs.Parts.{of_parent, of_line}

abbrev pub PartOfParent : ℕ → ℕ → Type 0
PartOfParent share r = r ≡ of_parent share

-- of a row, in any tree with these parents, depths and shares
abbrev pub PartOfLine : List ℕ → List ℕ → List ℕ → ℕ → ℕ → Type 0
PartOfLine parents depths shares row r =
    (tree : Tree) → tree.parents ≡ parents → tree.depths ≡ depths → tree.shares ≡ shares → r ≡ of_line tree row
