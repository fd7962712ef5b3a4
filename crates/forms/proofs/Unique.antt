-- Each contract leaves no choice, nor does its result.
-- Assumes nothing.
use Prim.Native.Nat.{ℕ}
use mathlib.Core.Path.{◌≡◌, sym, ap}
use mathlib.Core.Logic.{◌≢◌}
use mathlib.Core.List.{List}
use lib.IntN.{ℤ}
use Rattle.std.specs.Prelude.{Result, Ok, Err, IfErr}
use Rattle.words.specs.Unique.{Unique}
use Rattle.words.proofs.Determined.{determined}
use Rattle.input.specs.declared.Answer.{Answer}
use Rattle.input.specs.declared.Refusal.{Refusal}
use Rattle.input.specs.Classes.{Table}
use Rattle.input.specs.Refusals.{nothing}
use Rattle.forms.specs.declared.Counted.{Counted}
use Rattle.forms.specs.Outcomes.{Rows, answered, rows_said, rows_found, fault_found, rows_read, table_read, table_written, report_written, RowsRead, TableRead, TableWritten, ReportWritten}

pub one_rows : (text : List ℕ) (size : ℕ) (lent : Table) → Unique (RowsRead text size lent)
one_rows text size lent = determined (rows_read text size lent)

pub one_table : (text : List ℕ) (size : ℕ) (lent : Table) → Unique (TableRead text size lent)
one_table text size lent = determined (table_read text size lent)

pub one_text : (table : Table) (lent : List ℕ) → Unique (TableWritten table lent)
one_text table lent = determined (table_written table lent)

pub one_report : (identifiers report : List ℕ) (lags : List ℤ) (lent : List ℕ) → Unique (ReportWritten identifiers report lags lent)
one_report identifiers report lags lent = determined (report_written identifiers report lags lent)

-- results whose refusals have a number above 0, and which come to the same, are the same: of reading or writing a table or a report
pub one_result :
    (one other : Result ℕ Refusal) → IfErr one (λ refusal. refusal.number ≢ 0) → IfErr other (λ refusal. refusal.number ≢ 0)
    → answered one ≡ answered other → one ≡ other
unfolding nothing
one_result (Ok count) (Ok more) first second same = ap (λ (a : Answer). Ok a.count) same
one_result (Ok count) (Err refusal) first second same = absurd (second (sym (ap (λ (a : Answer). a.number) same)))
one_result (Err refusal) (Ok count) first second same = absurd (first (ap (λ (a : Answer). a.number) same))
one_result (Err refusal) (Err more) first second same =
    ap (λ (a : Answer). Err (record { number = a.number; place = a.place; second = a.second })) same

-- and of reading rows
pub one_found :
    (one other : Result Counted Refusal) → IfErr one (λ refusal. refusal.number ≢ 0) → IfErr other (λ refusal. refusal.number ≢ 0)
    → rows_said one ≡ rows_said other → one ≡ other
unfolding nothing rows_found fault_found
one_found (Ok found) (Ok more) first second same = ap (λ (rows : Rows). Ok (record { rows = rows.rows; kept = rows.kept })) same
one_found (Ok found) (Err fault) first second same = absurd (second (sym (ap (λ (rows : Rows). rows.fault.number) same)))
one_found (Err fault) (Ok found) first second same = absurd (first (ap (λ (rows : Rows). rows.fault.number) same))
one_found (Err fault) (Err more) first second same = ap (λ (rows : Rows). Err rows.fault) same
