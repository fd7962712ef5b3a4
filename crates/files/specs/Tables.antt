-- A table's file in the slices of its rows. Which bytes the system gives nothing can say, but the rows are those of some text.
use Rattle.std.specs.Prelude.{ℕ, ◌≡◌, Bool, cond, List, Result, Ok, Err, replicate}
use Rattle.input.specs.Classes.{Table}
use Rattle.input.specs.Lent.{table_of}
use Rattle.input.specs.declared.Refusal.{Refusal}
use Rattle.forms.specs.declared.Counted.{Counted}
use Rattle.forms.specs.Outcomes.{rows_left_of, rows_read, rows_said}
use Rattle.files.specs.declared.Stopped.{Stopped}
use Rattle.files.specs.Statuses.{refused}
use Rattle.files.specs.Columns.{none}

-- rows that were read are done if the text has no fault; otherwise they are refused, by an answer that was written or not
unfoldable pub loaded : Bool → Result Counted Refusal → Result ℕ Stopped
loaded written (Ok counted) = Ok counted.rows
loaded written (Err fault) = Err (refused written)

-- what loading leaves of the slices and answers: the rows of some text; and of these what they amount to, unless the file was missing
-- or a read failed
pub record LoadsTable (lent left : Table) (r : Result ℕ Stopped) : Type 0 where
  pub text : List ℕ
  pub size : ℕ
  pub read : Result Counted Refusal
  pub same : rows_left_of (rows_said read) left ≡ rows_read text size lent
  pub failed : Bool
  pub written : Bool
  pub outcome : r ≡ cond failed none (loaded written read)

-- the columns of a program before it reads, with one row more than a table may have
unfoldable pub no_columns : Table
no_columns = table_of (replicate 257 0) (replicate 257 0) (replicate 257 0)
