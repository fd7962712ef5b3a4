-- `report::write_report` meets its contract. The loop's invariant: the report of the rows passed is written over what was lent.
-- Assumes nothing.
use mathlib.Core.Path.{◌≡◌}
use Rattle.input.specs.Classes.{Tree}
use Rattle.rules.specs.Box.{Box}
use Rattle.rules.specs.Outcome.{report_of, over}
use Rattle.report.specs.Shown.{Sending, Shown}
use Rattle.report.proofs.write_report.Given as goal

abbrev pub invariant-loop-r : goal.invariant-loop-r
invariant-loop-r l =
    (tree : Tree) (box : Box) → Sending tree l.n l.senders → Shown box l.rows l.counts → l.report ≡ over (report_of tree box l.r) l.initial.report
