-- `counts::enter` meets its contract, by what remains of the path's changes.
-- Assumes nothing.
use Prim.Native.Nat.{ℕ, suc, ◌+◌, ◌-◌, ◌^◌, ◌≤◌}
use mathlib.Core.Path.{◌≡◌}
use native.Mathlib.Omega.{arith}
use lib.ListN.{get_or}
use Rattle.words.proofs.Entries.{entry_set}
use Rattle.counts.proofs.Steps.{entering_all, entering_less, entering_last}
use Rattle.counts.proofs.enter.Goals as goal

pub loop-init : goal.loop-init
loop-init c = (c.requires.k_is_row, entering_all (omega (arith, c.entry-to_enter.ensures)), λ i inside. omega (arith, c.requires.held_small i inside))

pub loop-preserved : goal.loop-preserved
loop-preserved c =
    let (inside, before, small) = c.loop.invariant in
    let r = c.loop.r in
    let at = c.enter_at.ensures in
    let less : c.entry-to_enter.result - c.loop.counter - 1 ≡ c.entry-to_enter.result - (c.loop.counter + 1) = omega arith in (
      omega (arith, c.entry-r.ensures, c.requires.parents_inside r inside),
      rw (← less) (entering_less before at (omega arith) c.entry-r.ensures),
      λ i below.
          rw at.held_after
          (entry_set (λ (n : ℕ). n ≤ 2 ^ 31 + (c.loop.counter + 1)) c.loop.counts.held r (suc (get_or c.loop.counts.held r 0)) i
          (omega (arith, small r inside)) (omega (arith, small i below))),
    )

pub returns-clause-counted : goal.returns-clause-counted
returns-clause-counted c = entering_last c.loop.invariant.1 c.enter_at-2.ensures (omega arith)
