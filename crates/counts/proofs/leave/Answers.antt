-- `counts::leave` meets its contract, by what remains of the path's changes.
-- Assumes nothing.
use Prim.Native.Nat.{ℕ, ◌+◌, ◌-◌, ◌*◌, ◌^◌, ◌≤◌}
use mathlib.Core.Path.{◌≡◌}
use native.Mathlib.Omega.{arith}
use lib.ListN.{get_or}
use Rattle.words.proofs.Entries.{entry_set}
use Rattle.counts.specs.Counts.{most_finished}
use Rattle.counts.proofs.Steps.{leaving_all, leaving_less, leaving_last}
use Rattle.counts.proofs.leave.Goals as goal

pub loop-init : goal.loop-init
loop-init c = (c.requires.k_is_row, leaving_all (omega (arith, c.entry-to_leave.ensures)), λ i inside. omega (arith, c.requires.bytes_small i inside))

pub loop-preserved : goal.loop-preserved
loop-preserved c =
    let (inside, before, small) = c.loop.invariant in
    let r = c.loop.r in
    let at = c.leave_at.ensures in
    let less : c.entry-to_leave.result - c.loop.counter - 1 ≡ c.entry-to_leave.result - (c.loop.counter + 1) = omega arith in (
      omega (arith, c.entry-r.ensures, c.requires.parents_inside r inside),
      rw (← less) (leaving_less before at (omega arith) c.entry-r.ensures),
      λ i below.
          rw at.bytes_after
          (entry_set (λ (n : ℕ). n ≤ most_finished + (c.loop.counter + 1) * 2 ^ 32) c.loop.counts.bytes r (get_or c.loop.counts.bytes r 0 + c.args.length) i
          (omega (arith, c.ranges.length, small r inside)) (omega (arith, small i below))),
    )

pub returns-clause-counted : goal.returns-clause-counted
returns-clause-counted c = leaving_last c.loop.invariant.1 c.leave_at-2.ensures (omega arith)
