-- What reading and writing leave: the answer, and every word or byte of what was lent to be written. A refusal changes nothing.
use Rattle.std.specs.Prelude.{ℕ, ◌*◌, ◌^◌, ◌<◌, ◌≡◌, Bool, true, false, cond, not, ◌&&◌, ◌||◌, Result, Ok, Err, Option, Some, None, List, [], ◌∷◌, leb, ltb, eqb, length, get_or, take, ℤ}
use Rattle.input.specs.declared.Refusal.{Refusal}
use Rattle.input.specs.declared.Answer.{Answer}
use Rattle.input.specs.Limits.{least_rows, most_rows, report_words}
use Rattle.input.specs.Classes.{Table}
use Rattle.input.specs.Refusals.{nothing, given, or_else, first, rows_refused, table_refused}
use Rattle.input.specs.Lent.{table_of}
use Rattle.rules.specs.Outcome.{over}
use Rattle.forms.specs.declared.Counted.{Counted}
use Rattle.forms.specs.Texts.{table_text, report_text, answer_text, run_text, live_line}
use Rattle.forms.specs.Faults.{table_in, text_refused}

abbrev pub answer_of : Refusal → ℕ → Answer
answer_of refusal count = record { number = refusal.number; place = refusal.place; second = refusal.second; count = count }

-- what a routine's result comes to as an answer
abbrev pub answered : Result ℕ Refusal → Answer
answered (Ok count) = answer_of nothing count
answered (Err refusal) = answer_of refusal 0

-- what is printed of a run's result: of a done run the order and the report too
abbrev pub result_text : Result ℕ Refusal → List ℕ → List ℕ → List ℕ → List ℤ → List ℕ
result_text (Ok count) identifiers order report lags = run_text (answer_of nothing count) identifiers order report lags
result_text (Err refusal) identifiers order report lags = answer_text (answer_of refusal 0)

-- what is printed of a live box's result, which may be a packet that went on the line
abbrev pub live_text : Result (Option ℕ) Refusal → List ℕ
live_text (Ok None) = live_line 0 0 0 0 0
live_text (Ok (Some packet)) = live_line 0 0 0 1 packet
live_text (Err refusal) = live_line refusal.number refusal.place refusal.second 0 0

-- ── reading a table ──

-- the answer and the three slices of a table
pub record TableLeft : Type 0 where
  pub answer : Answer
  pub table : Table

-- a table's lists, each over the first words of a slice
unfoldable pub table_over : Table → Table → Table
table_over table lent =
    table_of (over table.identifiers lent.identifiers) (over table.parent_identifiers lent.parent_identifiers)
    (over table.shares lent.shares)

abbrev pub table_left_of : Answer → Table → TableLeft
table_left_of answer table = record { answer = answer; table = table }

-- the slices hold this table, with so many rows, or they are as they were
unfoldable pub table_left : Refusal → Table → Table → TableLeft
table_left refusal table lent =
    cond (eqb refusal.number 0) (record { answer = answer_of refusal (length table.identifiers); table = table_over table lent })
    (record { answer = answer_of refusal 0; table = lent })

-- 40: a text is longer than what is lent for it
unfoldable pub length_refused : ℕ → ℕ → Refusal
length_refused lent size = given (ltb lent size) 40 0

-- 40, then 41 to 47
unfoldable pub text_fault : List ℕ → ℕ → Refusal
text_fault text size = or_else (length_refused (length text) size) (text_refused (take size text))

-- every slice has room for so many rows
unfoldable pub fits : ℕ → Table → Bool
fits rows lent = leb rows (length lent.identifiers) && leb rows (length lent.parent_identifiers) && leb rows (length lent.shares)

-- what came of reading rows: the fault of the text, else how many rows it has, and whether the slices had room for them
pub record Rows : Type 0 where
  pub fault : Refusal
  pub rows : ℕ
  pub kept : Bool

-- the rows of a text, whatever numbers they hold: the fault, else how many there are, and the slices, which hold them if there is room
pub record RowsLeft : Type 0 where
  pub read : Rows
  pub table : Table

abbrev pub rows_left_of : Rows → Table → RowsLeft
rows_left_of read table = record { read = read; table = table }

unfoldable pub rows_found : ℕ → Bool → Rows
rows_found rows kept = record { fault = nothing; rows = rows; kept = kept }

unfoldable pub fault_found : Refusal → Rows
fault_found fault = record { fault = fault; rows = 0; kept = false }

-- what reading rows results in
abbrev pub rows_said : Result Counted Refusal → Rows
rows_said (Ok found) = rows_found found.rows found.kept
rows_said (Err fault) = fault_found fault

unfoldable pub rows_kept : Table → Table → RowsLeft
rows_kept table lent =
    let rows = length table.identifiers in
    cond (fits rows lent) (rows_left_of (rows_found rows true) (table_over table lent)) (rows_left_of (rows_found rows false) lent)

unfoldable pub rows_read : List ℕ → ℕ → Table → RowsLeft
rows_read text size lent =
    cond (eqb (text_fault text size).number 0) (rows_kept (table_in (take size text)) lent) (rows_left_of (fault_found (text_fault text size)) lent)

-- a table: 40, then 41 to 47, 1, 3, and the table's own
unfoldable pub table_read : List ℕ → ℕ → Table → TableLeft
table_read text size lent =
    let table = table_in (take size text) in
    table_left
    (first
    (text_fault text size ∷ rows_refused table ∷ given (not (fits (length table.identifiers) lent)) 3 0 ∷ table_refused table ∷ []))
    table lent

-- ── writing ──

-- the answer and the bytes lent for the text
pub record TextLeft : Type 0 where
  pub answer : Answer
  pub bytes : List ℕ

abbrev pub text_left_of : Answer → List ℕ → TextLeft
text_left_of answer bytes = record { answer = answer; bytes = bytes }

-- the bytes begin with this text, or they are as they were
unfoldable pub text_left : Refusal → List ℕ → List ℕ → TextLeft
text_left refusal text lent =
    cond (eqb refusal.number 0) (record { answer = answer_of refusal (length text); bytes = over text lent })
    (record { answer = answer_of refusal 0; bytes = lent })

-- a table: 1, then 40, and the table's own
unfoldable pub table_written : Table → List ℕ → TextLeft
table_written table lent =
    text_left (first (rows_refused table ∷ length_refused (length lent) (length (table_text table)) ∷ table_refused table ∷ [])) (table_text table) lent

-- 1: too few identifiers or too many
unfoldable pub count_refused : ℕ → Refusal
count_refused rows = given (ltb rows least_rows || ltb most_rows rows) 1 0

-- 3: the report or the lags are too short for so many rows
unfoldable pub results_refused : ℕ → ℕ → ℕ → Refusal
results_refused rows report lags = given (ltb report (report_words * rows) || ltb lags rows) 3 0

-- a report with its lags: 1, then 3, then 40
unfoldable pub report_written : List ℕ → List ℕ → List ℤ → List ℕ → TextLeft
report_written identifiers report lags lent =
    let text = report_text identifiers report lags in
    text_left
    (first
    (count_refused (length identifiers)
    ∷ results_refused (length identifiers) (length report) (length lags)
    ∷ length_refused (length lent) (length text)
    ∷ []))
    text lent

-- ── what the routines state, which is all of it ──

abbrev pub RowsRead : List ℕ → ℕ → Table → RowsLeft → Type 0
RowsRead text size lent left = left ≡ rows_read text size lent

abbrev pub TableRead : List ℕ → ℕ → Table → TableLeft → Type 0
TableRead text size lent left = left ≡ table_read text size lent

abbrev pub TableWritten : Table → List ℕ → TextLeft → Type 0
TableWritten table lent left = left ≡ table_written table lent

abbrev pub ReportWritten : List ℕ → List ℕ → List ℤ → List ℕ → TextLeft → Type 0
ReportWritten identifiers report lags lent left = left ≡ report_written identifiers report lags lent

-- ── what the theorems say of a table ──

-- its lists are as long as one another
pub record Level (table : Table) : Type 0 where
  pub parents : length table.parent_identifiers ≡ length table.identifiers
  pub shares : length table.shares ≡ length table.identifiers

-- its numbers are of 32 bits
pub record Words (table : Table) : Type 0 where
  pub identifiers : (i : ℕ) → get_or table.identifiers i 0 < 2 ^ 32
  pub parents : (i : ℕ) → get_or table.parent_identifiers i 0 < 2 ^ 32
  pub shares : (i : ℕ) → get_or table.shares i 0 < 2 ^ 32

-- nothing of it is refused
abbrev pub Accepted : Table → Type 0
Accepted table = (or_else (rows_refused table) (table_refused table)).number ≡ 0
