-- What a class table, a report with its lags, an answer, a whole run and a live box's answer are as text: a heading, then a line for each row.
use Rattle.std.specs.Prelude.{ℕ, zero, suc, ◌+◌, ◌*◌, cond, List, [], ◌∷◌, ◌++◌, eqb, length, get_or, take, ℤ, pos}
use Rattle.input.specs.declared.Answer.{Answer}
use Rattle.input.specs.Limits.{report_words}
use Rattle.input.specs.Classes.{Table}
use Rattle.output.specs.Numbers.{decimal, signed}
use Rattle.forms.specs.Bytes.{comma, line_end, table_heading, report_heading, answer_heading, order_heading}

-- ── a class table ──

unfoldable pub row_line : ℕ → ℕ → ℕ → List ℕ
row_line identifier parent share = decimal identifier ++ comma ∷ decimal parent ++ comma ∷ decimal share ++ line_end

-- the lines of the rows below n
unfoldable pub row_lines : Table → ℕ → List ℕ
row_lines table zero = []
row_lines table (suc r) =
    row_lines table r ++ row_line (get_or table.identifiers r 0) (get_or table.parent_identifiers r 0) (get_or table.shares r 0)

unfoldable pub table_text : Table → List ℕ
table_text table = table_heading ++ line_end ++ row_lines table (length table.identifiers)

-- ── a report with its lags ──

-- the first words of row r, a comma after each
unfoldable pub report_fields : List ℕ → ℕ → ℕ → List ℕ
report_fields report r zero = []
report_fields report r (suc j) = report_fields report r j ++ decimal (get_or report (report_words * r + j) 0) ++ comma ∷ []

unfoldable pub report_line : List ℕ → List ℕ → List ℤ → ℕ → List ℕ
report_line identifiers report lags r =
    decimal (get_or identifiers r 0) ++ comma ∷ report_fields report r report_words ++ signed (get_or lags r (pos 0)) ++ line_end

-- the lines of the rows below n
unfoldable pub report_lines : List ℕ → List ℕ → List ℤ → ℕ → List ℕ
report_lines identifiers report lags zero = []
report_lines identifiers report lags (suc r) = report_lines identifiers report lags r ++ report_line identifiers report lags r

unfoldable pub report_text : List ℕ → List ℕ → List ℤ → List ℕ
report_text identifiers report lags = report_heading ++ line_end ++ report_lines identifiers report lags (length identifiers)

-- ── an answer, and a whole run ──

unfoldable pub answer_text : Answer → List ℕ
answer_text answer =
    answer_heading ++ line_end
    ++ decimal answer.number ++ comma ∷ decimal answer.place ++ comma ∷ decimal answer.second ++ comma ∷ decimal answer.count ++ line_end

-- a line for each word
unfoldable pub word_lines : List ℕ → List ℕ
word_lines [] = []
word_lines (word ∷ words) = decimal word ++ line_end ++ word_lines words

unfoldable pub order_text : List ℕ → List ℕ
order_text order = order_heading ++ line_end ++ word_lines order

-- the answer and, of a done run, the order, as many words as the answer counts, and the report
unfoldable pub run_text : Answer → List ℕ → List ℕ → List ℕ → List ℤ → List ℕ
run_text answer identifiers order report lags =
    answer_text answer
    ++ cond (eqb answer.number 0) (order_text (take answer.count order) ++ report_text identifiers report lags) []

-- ── an answer of a live box, under the live heading ──

-- a number and a comma
abbrev pub field : ℕ → List ℕ
field number = decimal number ++ comma ∷ []

unfoldable pub live_line : ℕ → ℕ → ℕ → ℕ → ℕ → List ℕ
live_line number place second count packet =
    field number ++ (field place ++ (field second ++ (field count ++ (decimal packet ++ line_end))))
