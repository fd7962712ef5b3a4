-- How many bytes a text has at most, whatever its numbers are: no number has more than 20 digits.
-- Assumes nothing.
use Prim.Native.Nat.{ℕ, zero, suc, ◌+◌, ◌*◌, ◌≤◌}
use mathlib.Core.Bool.{Bool, true, false, cond}
use mathlib.Core.List.{List, [], ◌∷◌, ◌++◌}
use native.Mathlib.Omega.{arith}
use lib.Dec.{eqb}
use lib.IntN.{ℤ, pos}
use lib.ListN.{length, get_or, take, length-append, length-take}
use Rattle.output.specs.Quoted.{bytes_of}
use Rattle.std.specs.Prelude.{Result, Ok, Err}
use Rattle.input.specs.declared.Answer.{Answer}
use Rattle.input.specs.declared.Refusal.{Refusal}
use Rattle.input.specs.Refusals.{nothing}
use Rattle.input.specs.Limits.{report_words}
use Rattle.input.specs.Classes.{Table}
use Rattle.output.proofs.Numbers.{decimal_length, signed_length}
use Rattle.forms.specs.Bytes.{table_heading, report_heading, answer_heading, order_heading}
use Rattle.forms.specs.Outcomes.{answer_of, result_text}
use Rattle.forms.specs.Texts.{row_line, row_lines, table_text, report_fields, report_line, report_lines, report_text, answer_text, word_lines, order_text, run_text, live_line}

-- ── a class table ──

row_room : (identifier parent share : ℕ) → length (row_line identifier parent share) ≤ 64
unfolding row_line
row_room identifier parent share =
    simp length-append (omega (arith, decimal_length identifier, decimal_length parent, decimal_length share))

rows_room : (table : Table) (n : ℕ) → length (row_lines table n) ≤ 64 * n
unfolding row_lines
rows_room table zero = omega arith
rows_room table (suc r) =
    let before = rows_room table r in
    let line = row_room (get_or table.identifiers r 0) (get_or table.parent_identifiers r 0) (get_or table.shares r 0) in
    simp length-append (omega arith)

pub table_room : (table : Table) → length (table_text table) ≤ 25 + 64 * length table.identifiers
unfolding table_text table_heading bytes_of
table_room table = let rows = rows_room table (length table.identifiers) in omega arith

-- ── a report with its lags ──

fields_room : (report : List ℕ) (r j : ℕ) → length (report_fields report r j) ≤ 21 * j
unfolding report_fields
fields_room report r zero = omega arith
fields_room report r (suc j) =
    let before = fields_room report r j in
    let word = decimal_length (get_or report (report_words * r + j) 0) in
    simp length-append (omega arith)

line_room : (identifiers report : List ℕ) (lags : List ℤ) (r : ℕ) → length (report_line identifiers report lags r) ≤ 149
unfolding report_line
line_room identifiers report lags r =
    let identifier = decimal_length (get_or identifiers r 0) in
    let fields = fields_room report r report_words in
    let lag = signed_length (get_or lags r (pos 0)) in
    simp length-append (omega arith)

lines_room : (identifiers report : List ℕ) (lags : List ℤ) (n : ℕ) → length (report_lines identifiers report lags n) ≤ 149 * n
unfolding report_lines
lines_room identifiers report lags zero = omega arith
lines_room identifiers report lags (suc r) =
    let before = lines_room identifiers report lags r in
    let line = line_room identifiers report lags r in
    simp length-append (omega arith)

pub report_room : (identifiers report : List ℕ) (lags : List ℤ) → length (report_text identifiers report lags) ≤ 48 + 149 * length identifiers
unfolding report_text report_heading bytes_of
report_room identifiers report lags = let lines = lines_room identifiers report lags (length identifiers) in omega arith

-- ── an answer, and a whole run ──

pub answer_room : (answer : Answer) → length (answer_text answer) ≤ 112
unfolding answer_text answer_heading bytes_of
answer_room answer =
    let number = decimal_length answer.number in
    let place = decimal_length answer.place in
    let second = decimal_length answer.second in
    let count = decimal_length answer.count in
    simp length-append (omega arith)

words_room : (words : List ℕ) → length (word_lines words) ≤ 22 * length words
unfolding word_lines
words_room [] = omega arith
words_room (word ∷ words) =
    let here = decimal_length word in
    let later = words_room words in
    simp length-append (omega arith)

order_room : (order : List ℕ) → length (order_text order) ≤ 7 + 22 * length order
unfolding order_text order_heading bytes_of
order_room order = let lines = words_room order in omega arith

either : (done : Bool) (a b : List ℕ) (most : ℕ) → length a + length b ≤ most → length (cond done (a ++ b) []) ≤ most
either true a b most room = simp length-append (omega arith)
either false a b most room = omega arith

-- 1,480,252 bytes hold a run of 65,536 packets and 257 rows
pub run_room :
    (answer : Answer) (identifiers order report : List ℕ) (lags : List ℤ) → length identifiers ≤ 257 → length order ≤ 65536
    → length (run_text answer identifiers order report lags) ≤ 1480252
unfolding run_text
run_room answer identifiers order report lags few fits =
    let first = answer_room answer in
    let sent = order_room (take answer.count order) in
    let some = length-take answer.count order in
    let last = report_room identifiers report lags in
    let rest =
    either (eqb answer.number 0) (order_text (take answer.count order)) (report_text identifiers report lags) 1480140 (omega arith)
    in
    simp length-append (omega arith)

-- what is printed of a run's result, refused or done
pub result_room :
    (result : Result ℕ Refusal) (identifiers order report : List ℕ) (lags : List ℤ) → length identifiers ≤ 257 → length order ≤ 65536
    → length (result_text result identifiers order report lags) ≤ 1480252
result_room (Ok count) identifiers order report lags few fits = run_room (answer_of nothing count) identifiers order report lags few fits
result_room (Err refusal) identifiers order report lags few fits = let short = answer_room (answer_of refusal 0) in omega (arith, short)

-- ── an answer of a live box ──

pub live_room : (number place second count packet : ℕ) → length (live_line number place second count packet) ≤ 106
unfolding live_line
live_room number place second count packet =
    simp length-append
    (omega (
      arith,
      decimal_length number,
      decimal_length place,
      decimal_length second,
      decimal_length count,
      decimal_length packet,
    ))
