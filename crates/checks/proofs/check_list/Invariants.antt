-- `checks::check_list` meets its contract: no event passed is refused, and the rows and the counts are those of the events passed.
-- Assumes nothing.
use Prim.Native.Nat.{◌≤◌}
use Rattle.input.specs.Classes.{Tree}
use Rattle.input.specs.Lent.{events_of}
use Rattle.checks.specs.Counted.{Known}
use Rattle.checks.proofs.Meeting.{Passed}
use Rattle.checks.proofs.check_list.Given as goal

abbrev pub invariant-loop-i : goal.invariant-loop-i
invariant-loop-i l =
    (l.arrivals ≤ l.i) × (l.finishes ≤ l.i)
    × ((tree : Tree) → Known tree l.identifiers l.senders → Passed tree (events_of l.classes l.lengths) l.i l.rows l.arrivals l.finishes)
