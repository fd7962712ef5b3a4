-- The contract leaves no choice.
-- Assumes nothing.
use Rattle.words.specs.Unique.{Unique}
use Rattle.input.specs.Classes.{Table}
use Rattle.input.specs.Refusals.{rows_refused}
use Rattle.tables.proofs.Unique.{one_judged}
use Rattle.refusals.specs.All.{row_by_row}
use Rattle.refusals.specs.Stated.{Judges}

pub one_judgement : (table : Table) → Unique (Judges table)
one_judgement table = one_judged (rows_refused table) (row_by_row table)
