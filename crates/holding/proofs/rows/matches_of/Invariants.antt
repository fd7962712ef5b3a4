-- `holding::rows::matches_of` meets its contract: the rows passed have left their marks.
-- Assumes nothing.
use mathlib.Core.Path.{◌≡◌}
use lib.ListN.{length}
use Rattle.input.specs.Limits.{most_rows}
use Rattle.holding.specs.Rows.{Matches}
use Rattle.holding.proofs.rows.matches_of.Given as goal

abbrev pub invariant-loop-t : goal.invariant-loop-t
invariant-loop-t l = (length l.marks ≡ most_rows) × Matches l.tree.parents l.rows.heads l.rows.head_lengths l.rows.head_classes l.t l.marks
