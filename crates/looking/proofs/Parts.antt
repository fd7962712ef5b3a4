-- The rules' definitions read only some of the arrays: each is what it is with the others left empty.
-- Assumes nothing.
use Prim.Native.Nat.{ℕ}
use mathlib.Core.Path.{◌≡◌, refl}
use mathlib.Core.Bool.{◌&&◌}
use mathlib.Core.List.{List}
use lib.Dec.{leb}
use lib.ListN.{get_or}
use Rattle.rules.specs.declared.Why.{Why}
use Rattle.rules.specs.declared.Why.TheVariants.{Finished, Arrived}
use Rattle.input.specs.Classes.{Tree, child}
use Rattle.rules.specs.Box.{Rows, has_head}
use Rattle.rules.specs.Steps.{waits, eligible, least, raised, pick, next_start}
use Rattle.arrays.specs.Arrays.{has_head_of, waits_of, eligible_of, raised_of, next_start_of}

pub eligible_waits : (parents starts heads : List ℕ) (p v r : ℕ)
    → eligible_of parents starts heads p v r ≡ waits_of parents heads p r && leb (get_or starts r 0) v
unfolding eligible waits child has_head
eligible_waits parents starts heads p v r = refl

pub head_part : (rows : Rows) (r : ℕ) → has_head rows r ≡ has_head_of rows.heads r
unfolding has_head
head_part rows r = refl

module _ (tree : Tree) (rows : Rows) where
  pub raised_part : (p : ℕ)
      → raised tree rows p ≡ raised_of tree.rows tree.parents rows.starts rows.virtuals rows.heads p
  unfolding raised waits child has_head
  raised_part p = refl

  pub pick_part : (p : ℕ)
      → pick tree rows p
      ≡ least (eligible_of tree.parents rows.starts rows.heads p (raised tree rows p)) (λ (i : ℕ). get_or rows.finishes i 0)
      (λ (i : ℕ). get_or rows.heads i 0) tree.rows
  unfolding pick eligible waits child has_head
  pick_part p = refl

  pub next_start_part : (why : Why) (r : ℕ)
      → next_start tree why r rows ≡ next_start_of tree.parents rows.finishes rows.virtuals why r
  unfolding next_start
  next_start_part Finished r = refl
  next_start_part Arrived r = refl
