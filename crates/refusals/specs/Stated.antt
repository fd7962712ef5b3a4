-- What `judge` states of its result, which is all of it.
use Rattle.std.specs.Prelude.{Result}
use Rattle.input.specs.declared.Refusal.{Refusal}
use Rattle.input.specs.Classes.{Table}
use Rattle.input.specs.Refusals.{rows_refused}
use Rattle.tables.specs.Judged.{Judged as JudgedBy}
use Rattle.refusals.specs.declared.Judged.{Judged}
use Rattle.refusals.specs.All.{row_by_row}

-- a table with a wrong number of rows has no other refusal
abbrev pub Judges : Table → Result Judged Refusal → Type 0
Judges table r = JudgedBy (rows_refused table) (row_by_row table) r
