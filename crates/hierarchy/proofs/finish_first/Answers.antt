-- `hierarchy::finish_first` meets its contract: what remains to be cleared on the path is all that was to be cleared at first.
-- Assumes nothing.
use Prim.Native.Nat.{◌≤◌, ◌<◌, ◌-◌, ◌+◌}
use mathlib.Core.Path.{◌≡◌, refl, ap, ◌∙◌}
use native.Mathlib.Omega.{arith}
use lib.ListN.{get_or}
use Rattle.rules.specs.Box.{Rows}
use Rattle.rules.specs.Steps.{with_head, leaves}
use Rattle.rules.proofs.OnPath.{remains_all, remains_less, remains_last, along_by}
use Rattle.arrays.specs.Arrays.{tree_in}
use Rattle.hierarchy.proofs.finish_first.Goals as goal

pub loop-level-init : goal.loop-level-init
loop-level-init c =
    let all : get_or c.args.tree.now.depths c.args.k 0 - 0 ≡ get_or c.args.tree.now.depths c.args.k 0 = omega arith in
    (c.requires.k_lt_most_rows, remains_all all, remains_all all, remains_all all, refl, refl, refl)

pub loop-level-preserved : goal.loop-level-preserved
unfolding with_head
loop-level-preserved c =
    let now = c.loop-level in
    let inv = now.invariant in
    let depth = get_or c.args.tree.now.depths c.args.k 0 in
    let some : 0 < depth - now._level = omega arith in
    let fewer : depth - (now._level + 1) ≡ depth - now._level - 1 = omega arith in
    let after = c.set_head.ensures.rows_after in (
      c.requires.inside now.r,
      rw fewer (remains_less some refl (ap (λ (a : Rows). a.heads) after) inv.1),
      rw fewer (remains_less some refl (ap (λ (a : Rows). a.head_lengths) after) inv.2),
      rw fewer (remains_less some refl (ap (λ (a : Rows). a.head_classes) after) inv.3),
      ap (λ (a : Rows). a.starts) after ∙ inv.4,
      ap (λ (a : Rows). a.finishes) after ∙ inv.5,
      ap (λ (a : Rows). a.virtuals) after ∙ inv.6,
    )

pub returns : goal.returns
unfolding leaves with_head
returns c =
    λ n ids.
    let last = c.loop-level in
    let inv = last.invariant in
    let done : get_or c.args.tree.now.depths c.args.k 0 - last._level ≤ 0 = omega arith in
    let after = c.set_head-2.ensures.rows_after in
    let whole = along_by _ (tree_in n ids c.args.tree.now) refl refl (λ r n. 0) _ in
    rw (
      after,
      inv.4,
      inv.5,
      inv.6,
      ← remains_last done refl inv.1 ∙ whole _,
      ← remains_last done refl inv.2 ∙ whole _,
      ← remains_last done refl inv.3 ∙ whole _,
    )
