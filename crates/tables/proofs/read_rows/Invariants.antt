-- `tables::read_rows` meets its contract: the lists are those of the rows passed.
-- Assumes nothing.
use mathlib.Core.Path.{◌≡◌}
use Rattle.input.specs.Lent.{table_of}
use Rattle.tables.specs.Answers.{rows_read}
use Rattle.tables.proofs.OneRow.{rows_with}
use Rattle.tables.proofs.read_rows.Given as goal

abbrev pub invariant-loop-r : goal.invariant-loop-r
invariant-loop-r l = rows_with l.refusals l.tree ≡ rows_read (table_of l.identifiers l.parent_identifiers l.shares) l.r
