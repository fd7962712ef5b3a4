-- `children_sums` meets its contract: the rows passed are added up for their parents.
-- Assumes nothing.
use Prim.Native.Nat.{ℕ, ◌+◌, ◌*◌, ◌^◌, ◌≤◌}
use mathlib.Core.Path.{refl, sym, ◌∙◌}
use native.Mathlib.Numerals.{add-one}
use native.Mathlib.Omega.{arith}
use lib.ListN.{get_or, length-set}
use Rattle.words.proofs.Entries.{entry_set}
use Rattle.input.specs.Limits.{most_rows}
use Rattle.laws.proofs.Event.Outset.{replicate_at}
use Rattle.soundness.proofs.Turns.{sums_start, sums_turn, sums_end}
use Rattle.soundness.proofs.tree.children_sums.Goals as goal

pub loop-r-init : goal.loop-r-init
loop-r-init c = (
  omega arith,
  omega arith,
  refl,
  λ p. rw (replicate_at {A = ℕ} most_rows p 0) (omega arith),
  λ tree e p inside. replicate_at {A = ℕ} most_rows p 0 ∙ sym (sums_start tree c.args.list.now p),
)

pub loop-r-preserved : goal.loop-r-preserved
loop-r-preserved c =
    let sums = c.loop-r.sums in
    let r = c.loop-r.r in
    let p = c.wide-p.result in
    let few = c.loop-r.invariant.3 p in
    let new : get_or sums p 0 + c.long.result ≤ (r + 1) * 2 ^ 32 = omega (arith, c.long.ensures.1) in (
      omega arith,
      omega arith,
      length-set sums p _ ∙ c.loop-r.invariant.2,
      λ q.
          let old = c.loop-r.invariant.3 q in
          entry_set (λ (x : ℕ). x ≤ (r + 1) * 2 ^ 32) sums p (get_or sums p 0 + c.long.result) q new (omega arith),
      λ tree e q inside.
          rw (add-one, c.wide-p.ensures.0, c.long.ensures.0, ← e)
          (sums_turn tree c.args.list.now sums r c.loop-r.invariant.0 c.loop-r.invariant.2 (c.loop-r.invariant.4 tree e) q inside),
    )

pub returns : goal.returns
returns c tree e p inside =
    c.loop-r.invariant.4 tree e p inside
    ∙ sums_end tree c.args.list.now p c.args.n c.loop-r.r (omega arith) (omega arith)
