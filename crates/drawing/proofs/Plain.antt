-- Of an accepted table no share is cut and no step is left out: a class's part of the line is the product of all shares on its way.
-- Assumes nothing.
use Prim.Native.Nat.{ℕ, zero, suc, ◌*◌, ◌/◌, ◌^◌, ◌<◌, min}
use mathlib.Core.Path.{◌≡◌, refl, ◌∙◌, ap, ap₂}
use native.Mathlib.Omega.{arith}
use Rattle.input.specs.Limits.{whole, most_depth}
use Rattle.input.specs.Classes.{Table, Tree, tree_of, parent, depth, share}
use Rattle.input.specs.Refusals.{rows_refused, table_refused}
use Rattle.laws.specs.Sound.{Sound}
use Rattle.laws.proofs.Tree.Trees.{share_whole, sound}
use Rattle.drawing.specs.Parts.{hundredths, part, product, steps, of_line, shares_up}

module _ (tree : Tree) (is_sound : Sound tree) where
  plain : (d r : ℕ) → r < tree.rows → depth tree r ≡ d → product tree d r ≡ shares_up tree d r
  unfolding product shares_up part
  plain zero r inside same = refl
  plain (suc d) zero inside same = absurd (omega (arith, is_sound.root_depth))
  plain (suc d) (suc r) inside same =
      let most = share_whole (share tree (suc r)) (is_sound.share_allowed (suc r) (omega arith) inside) in
      let above = is_sound.deeper (suc r) (omega arith) inside in
      ap₂ ◌*◌ (omega arith) (plain d (parent tree (suc r)) (is_sound.parent_row (suc r) (omega arith) inside) (omega (arith, above)))

  pub plain_of_line : (r : ℕ) → r < tree.rows → of_line tree r ≡ hundredths * shares_up tree (depth tree r) r / whole ^ depth tree r
  unfolding of_line steps
  plain_of_line r inside =
      let whole_way : min (depth tree r) most_depth ≡ depth tree r = omega (arith, is_sound.shallow r inside) in
      ap (λ (d : ℕ). hundredths * product tree d r / whole ^ d) whole_way
      ∙ ap (λ (p : ℕ). hundredths * p / whole ^ depth tree r) (plain (depth tree r) r inside refl)

-- of the tree that an accepted table is read as
pub accepted_of_line :
    (table : Table) → (rows_refused table).number ≡ 0 → (table_refused table).number ≡ 0 → (r : ℕ) → r < (tree_of table).rows
    → of_line (tree_of table) r ≡ hundredths * shares_up (tree_of table) (depth (tree_of table) r) r / whole ^ depth (tree_of table) r
accepted_of_line table rows_fine table_fine = plain_of_line (tree_of table) (sound table rows_fine table_fine)
