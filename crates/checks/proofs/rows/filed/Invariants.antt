-- `checks::rows::filed` meets its contract: the rows passed are filed.
-- Assumes nothing.
use mathlib.Core.Path.{◌≡◌}
use Rattle.checks.specs.Filed.{rows_filed}
use Rattle.checks.proofs.rows.filed.Given as goal

abbrev pub invariant-loop-r : goal.invariant-loop-r
invariant-loop-r l = l.rows ≡ rows_filed l.identifiers l.r
