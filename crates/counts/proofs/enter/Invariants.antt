-- `counts::enter` meets its contract. The loop's invariant: what remains of the path's changes is the whole of them, and no count has grown by
-- more than the number of rows passed.
-- Assumes nothing.
use Prim.Native.Nat.{ℕ, ◌+◌, ◌-◌, ◌^◌, ◌≤◌, ◌<◌}
use lib.ListN.{get_or}
use Rattle.input.specs.Limits.{most_rows}
use Rattle.counts.proofs.Steps.{Entering}
use Rattle.counts.proofs.enter.Given as goal

abbrev pub invariant-loop : goal.invariant-loop
invariant-loop l =
    (l.r < most_rows) × Entering l.tree l.k l.initial.counts (l.to_enter - l.counter) l.r l.counts × ((i : ℕ) → i < most_rows → get_or l.counts.held i 0 ≤ 2 ^ 31 + l.counter)
