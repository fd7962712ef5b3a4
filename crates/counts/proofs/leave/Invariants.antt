-- `counts::leave` meets its contract. The loop's invariant: what remains of the path's changes is the whole of them, and no count has grown by
-- more than a length for each row passed.
-- Assumes nothing.
use Prim.Native.Nat.{ℕ, ◌+◌, ◌-◌, ◌*◌, ◌^◌, ◌≤◌, ◌<◌}
use lib.ListN.{get_or}
use Rattle.input.specs.Limits.{most_rows}
use Rattle.counts.specs.Counts.{most_finished}
use Rattle.counts.proofs.Steps.{Leaving}
use Rattle.counts.proofs.leave.Given as goal

abbrev pub invariant-loop : goal.invariant-loop
invariant-loop l =
    (l.r < most_rows) × Leaving l.tree l.length l.k l.initial.counts (l.to_leave - l.counter) l.r l.counts × ((i : ℕ) → i < most_rows → get_or l.counts.bytes i 0 ≤ most_finished + l.counter * 2 ^ 32)
