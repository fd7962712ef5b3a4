-- The contracts leave no choice: of a test none, of marks and of sums none in the entries that they speak of.
-- Assumes nothing.
use Prim.Native.Nat.{ℕ, ◌<◌}
use mathlib.Core.Path.{◌≡◌, refl, sym, ◌∙◌}
use mathlib.Core.Bool.{Bool, false}
use mathlib.Core.List.{List, []}
use lib.ListN.{get_or, take}
use Rattle.words.specs.Unique.{Unique}
use Rattle.words.proofs.Determined.{determined}
use Rattle.input.specs.Limits.{most_rows}
use Rattle.input.specs.Lent.{tree_with}
use Rattle.arrays.specs.declared.TreeArrays.{TreeArrays}
use Rattle.arrays.specs.Arrays.{tree_in}
use Rattle.live_rules.specs.Soundness.{tree_sound}
use Rattle.soundness.specs.Trees.{Senders, Sums, TreeSound}

pub one_tree_verdict : (n : ℕ) (identifiers : List ℕ) (tree : TreeArrays) → Unique (TreeSound n identifiers tree)
one_tree_verdict n identifiers tree = determined (tree_sound (tree_in n (take n identifiers) tree))

pub same_senders : (n : ℕ) (parents : List ℕ) (one other : List Bool) → Senders n parents one → Senders n parents other
    → (r : ℕ) → r < n → get_or one r false ≡ get_or other r false
same_senders n parents one other first second r inside =
    let tree = tree_with n [] parents [] [] in
    sym (first tree refl refl r inside) ∙ second tree refl refl r inside

pub same_sums : (n : ℕ) (parents xs one other : List ℕ) → Sums n parents xs one → Sums n parents xs other
    → (p : ℕ) → p < most_rows → get_or one p 0 ≡ get_or other p 0
same_sums n parents xs one other first second p inside =
    let tree = tree_with n [] parents [] [] in
    first tree refl p inside ∙ sym (second tree refl p inside)
