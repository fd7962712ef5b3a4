-- `report::write_lags` meets its contract. The loop's invariant: the lags of the rows passed are written over what was lent.
-- Assumes nothing.
use mathlib.Core.Path.{◌≡◌}
use Rattle.input.specs.Classes.{Tree}
use Rattle.rules.specs.Box.{Box}
use Rattle.rules.specs.Outcome.{lags_of, over}
use Rattle.counts.specs.Counts.{Counts}
use Rattle.report.specs.Lags.{Shares}
use Rattle.report.proofs.write_lags.Given as goal

abbrev pub invariant-loop-r : goal.invariant-loop-r
invariant-loop-r l = (tree : Tree) (box : Box) → Shares tree l.tree → Counts box l.counts → l.lags ≡ over (lags_of tree box l.r) l.initial.lags
