-- Each contract leaves no choice.
-- Assumes nothing.
use Prim.Native.Nat.{ℕ}
use mathlib.Core.Path.{refl, sym, ◌∙◌}
use mathlib.Core.List.{List, []}
use Rattle.input.specs.Classes.{Tree}
use Rattle.words.specs.Unique.{Unique}
use Rattle.words.proofs.Determined.{determined}
use Rattle.drawing.specs.Parts.{of_parent}
use Rattle.drawing.specs.Stated.{PartOfParent, PartOfLine}

pub one_part_of_parent : (share : ℕ) → Unique (PartOfParent share)
one_part_of_parent share = determined (of_parent share)

pub one_part_of_line : (parents depths shares : List ℕ) (row : ℕ) → Unique (PartOfLine parents depths shares row)
one_part_of_line parents depths shares row a b is_a is_b =
    let tree : Tree = record { rows = 0; identifiers = []; parents = parents; depths = depths; shares = shares } in
    is_a tree refl refl refl ∙ sym (is_b tree refl refl refl)
