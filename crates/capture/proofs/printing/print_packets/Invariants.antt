-- `print_packets` is safe: a moment past the latest ends it.
-- Assumes nothing.
use Rattle.std.proofs.Common.{◌≤◌}
use Rattle.timetable.specs.Free.{most_free}
use Rattle.capture.proofs.printing.print_packets.Given as goal

abbrev pub invariant-loop-piece : goal.invariant-loop-piece
invariant-loop-piece l =
    (goal.iterator-loop-piece).can_next l.piece-iterator × (goal.iterator-loop-piece).is_finite l.piece-iterator × (l.free ≤ most_free)
