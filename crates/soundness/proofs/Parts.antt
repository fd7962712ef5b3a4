-- The four parts of a sound tree: the first that fails decides, and past three of them the last.
-- Assumes nothing.
use Prim.Native.Nat.{ℕ, zero, suc, ◌≤◌, ◌<◌}
use mathlib.Core.Path.{◌≡◌, refl, sym}
use mathlib.Core.Bool.{Bool, true, false, false≢true, ◌&&◌, ◌||◌}
use native.Mathlib.Omega.{arith}
use borrow.Author.Tests.{ltb-true, eqb-true, ne_eqb}
use lib.Dec.{ltb, leb, eqb}
use Rattle.input.specs.Limits.{most_rows, most_depth, whole}
use Rattle.input.specs.Shares.{allowed}
use Rattle.input.specs.Classes.{Tree, parent, depth, share}
use Rattle.live_rules.specs.Soundness.{all, named, root_sound, class_sound, children_sum, tree_sound}
use Rattle.soundness.specs.Trees.{Inside}
use Rattle.live_rules.proofs.Alls.{all_true, both_true}
use Rattle.soundness.proofs.Alls.{both_left, both_right}

module _ (tree : Tree) where
  abbrev pub classes : Bool
  classes = all tree.rows (λ r. eqb r 0 || class_sound tree r)

  abbrev pub rows : Bool
  rows = root_sound tree && (all tree.rows (named tree) && classes)

  pub rows_fail : rows ≡ false → tree_sound tree ≡ false
  unfolding tree_sound
  rows_fail fails = go (root_sound tree) (all tree.rows (named tree)) classes (all tree.rows (λ p. leb (children_sum tree tree.shares p tree.rows) whole)) fails
    where
      go : (a b c d : Bool) → (a && (b && c)) ≡ false → (a && (b && (c && d))) ≡ false
      go false b c d fails = refl
      go true false c d fails = refl
      go true true false d fails = refl
      go true true true d fails = absurd (false≢true (sym fails))

  rows_parts : rows ≡ true → (root_sound tree ≡ true) × (all tree.rows (named tree) ≡ true) × (classes ≡ true)
  rows_parts pass =
      let later = both_true (root_sound tree) (all tree.rows (named tree) && classes) pass in
      let both = both_true (all tree.rows (named tree)) classes later.1 in
      (later.0, both.0, both.1)

  pub sums_decide : rows ≡ true → tree_sound tree ≡ all tree.rows (λ p. leb (children_sum tree tree.shares p tree.rows) whole)
  unfolding tree_sound
  sums_decide pass = let (root, names, each) = rows_parts pass in rw (root, names, each)

  class_inside : (r : ℕ) → class_sound tree r ≡ true → parent tree r < tree.rows
  unfolding class_sound
  class_inside r ok =
      ltb-true (parent tree r) tree.rows
      (both_left (ltb (parent tree r) tree.rows)
      (eqb (depth tree r) (suc (depth tree (parent tree r))) && (leb (depth tree r) most_depth && allowed (share tree r))) ok)

  -- every row in use has a parent in use
  pub parents_inside : root_sound tree ≡ true → classes ≡ true → (r : ℕ) → r < tree.rows → parent tree r < tree.rows
  unfolding root_sound
  parents_inside root rows zero inside =
      let top = eqb-true (parent tree 0) 0 (both_left (eqb (parent tree 0) 0) (eqb (depth tree 0) 0 && eqb (share tree 0) 0) root) in
      omega arith
  parents_inside root rows (suc r) inside =
      let passed = all_true tree.rows (λ q. eqb q 0 || class_sound tree q) rows (suc r) inside in
      class_inside (suc r) (rw (ne_eqb (suc r) 0 (λ e. absurd (omega arith))) at passed)

  pub rows_inside : rows ≡ true → (r : ℕ) → r < tree.rows → parent tree r < tree.rows
  rows_inside pass = let (root, names, each) = rows_parts pass in parents_inside root each

  -- of a sound tree the parents are rows that there can be
  pub sound_inside : tree_sound tree ≡ true → tree.rows ≤ most_rows → Inside tree.rows tree.parents
  unfolding tree_sound
  sound_inside sound few r inside =
      let sums = all tree.rows (λ p. leb (children_sum tree tree.shares p tree.rows) whole) in
      let names = all tree.rows (named tree) in
      let root = both_left (root_sound tree) (names && (classes && sums)) sound in
      let later = both_right names (classes && sums) (both_right (root_sound tree) (names && (classes && sums)) sound) in
      let own = parents_inside root (both_left classes sums later) r inside in
      omega arith
