-- Tables, reports and faults worked from the definitions: the example of the rules whole, what each fault is given for, and numbers at
-- the edges.
-- Assumes nothing.
use Prim.Native.Nat.{ℕ, ◌^◌, ◌-◌}
use Prim.Native.String.{String}
use mathlib.Core.Path.{◌≡◌, refl}
use mathlib.Core.List.{List, [], ◌∷◌, ◌++◌, map}
use lib.IntN.{pos, negsuc}
use Rattle.input.specs.declared.Refusal.{Refusal}
use Rattle.input.specs.Refusals.{nothing, given, or_else}
use Rattle.input.specs.Classes.{Table}
use Rattle.input.specs.Lent.{table_of}
use Rattle.output.specs.Numbers.{digits, decimal, signed}
use Rattle.output.specs.Quoted.{bytes_of}
use Rattle.forms.specs.Bytes.{table_heading, report_heading}
use Rattle.forms.specs.Texts.{row_line, row_lines, table_text, report_fields, report_line, report_lines, report_text}
use Rattle.forms.specs.Faults.{digit, after_heading, after_due, after_digit, after_field, after_number, after_return, place_after, lines_after, number_after, after, with_row, ends_row, with_byte, with_bytes, read_text, fault_at, line_of, scan_refused, text_refused}
use Rattle.forms.specs.Outcomes.{length_refused, text_fault}

-- ── P2: its table, and the report of its run ──

abbrev pub table : Table
table = table_of (1 ∷ 10 ∷ 20 ∷ []) (0 ∷ 1 ∷ 1 ∷ []) (0 ∷ 420 ∷ 420 ∷ [])

abbrev pub text : List ℕ
text = bytes_of "identifier,parent,share\r\n1,0,0\r\n10,1,420\r\n20,1,420\r\n"

pub worked_table : table_text table ≡ text
unfolding table_text table_heading row_lines row_line decimal digits bytes_of
worked_table = refl

pub worked_report :
    report_text (1 ∷ 10 ∷ 20 ∷ [])
    (100 ∷ 0 ∷ 0 ∷ 168000 ∷ 2 ∷ 100 ∷ 168000 ∷ 336000 ∷ 0 ∷ 1 ∷ 0 ∷ 84000 ∷ 252000 ∷ 0 ∷ 1 ∷ [])
    (pos 0 ∷ negsuc 41999 ∷ pos 42000 ∷ [])
    ≡ bytes_of "identifier,bytes,start,finish,virtual,held,lag\r\n1,100,0,0,168000,2,0\r\n10,100,168000,336000,0,1,-42000\r\n20,0,84000,252000,0,1,42000\r\n"
unfolding report_text report_heading report_lines report_line report_fields signed decimal digits bytes_of
worked_report = refl

-- ── faults, each with its line ──

abbrev pub at : ℕ → ℕ → Refusal
at number line = record { number = number; place = line; second = 0 }

abbrev pub refused : String → Refusal
refused words = text_refused (bytes_of words)

-- of the heading's line
pub headings_refused :
    map refused
    ("identifier,parent,share\r\n"
    ∷ ""
    ∷ "identifier,parent,shar"
    ∷ "identifier,parent,share"
    ∷ "identifier,parent,share\r"
    ∷ "identifier;parent;share\r\n"
    ∷ "Identifier,parent,share\r\n"
    ∷ "identifier,parent,share \r\n"
    ∷ "identifier,parent\r\n"
    ∷ "identifier,parent,share\n"
    ∷ "identifier,parent,share\r1,0,0\r\n"
    ∷ [])
    ≡ nothing ∷ at 47 1 ∷ at 47 1 ∷ at 47 1 ∷ at 47 1 ∷ at 41 1 ∷ at 41 1 ∷ at 41 1 ∷ at 41 1 ∷ at 46 1 ∷ at 46 1 ∷ []
unfolding
    text_refused scan_refused fault_at line_of read_text with_bytes with_byte ends_row with_row after place_after lines_after number_after after_heading after_due after_digit after_field after_number after_return digit table_heading bytes_of nothing
headings_refused = refl

-- a line after the heading's
abbrev pub row : String → Refusal
row words = text_refused (bytes_of "identifier,parent,share\r\n" ++ bytes_of words)

-- of the rows' lines: a row, then whatever a line may have wrong, and the first of two faults
pub rows_refused :
    map row
    ("0,0,0\r\n"
    ∷ "4294967295,4294967295,4294967295\r\n"
    ∷ "1,0,0\r\n,1,2\r\n"
    ∷ "1,0,0\r\n2,,2\r\n"
    ∷ "1,0,0\r\n2,1,\r\n"
    ∷ "1,0,0\r\n\r\n"
    ∷ "1,0,0\r\n\n"
    ∷ "1,0,0\r\n-2,1,3\r\n"
    ∷ "1,0,0\r\n2,1,0.5\r\n"
    ∷ "1,0,0\r\n2,1,50%\r\n"
    ∷ "1,0,0\r\n\"2\",1,3\r\n"
    ∷ "1,0,0\r\n2,1,3 \r\n"
    ∷ "1,0,0\r\n02,1,3\r\n"
    ∷ "1,0,0\r\n2,00,3\r\n"
    ∷ "4294967296,0,0\r\n"
    ∷ "1,0,99999999999\r\n"
    ∷ "1,0\r\n"
    ∷ "1\r\n"
    ∷ "1,0,0,0\r\n"
    ∷ "1,0,0\n"
    ∷ "1,0,0\r1,0,0\r\n"
    ∷ "1,0,0"
    ∷ "1,0,0\r\n2,1"
    ∷ "1,0,0\r\n2,1,3\r"
    ∷ "1,0,00\r\n2\n"
    ∷ [])
    ≡ nothing ∷ nothing ∷ at 42 3 ∷ at 42 3 ∷ at 42 3 ∷ at 42 3 ∷ at 42 3 ∷ at 42 3 ∷ at 42 3 ∷ at 42 3 ∷ at 42 3 ∷ at 42 3 ∷ at 43 3 ∷ at 43 3
    ∷ at 44 2 ∷ at 44 2 ∷ at 45 2 ∷ at 45 2 ∷ at 45 2 ∷ at 46 2 ∷ at 46 2 ∷ at 47 2 ∷ at 47 3 ∷ at 47 3 ∷ at 43 2 ∷ []
unfolding
    text_refused scan_refused fault_at line_of read_text with_bytes with_byte ends_row with_row after place_after lines_after number_after after_heading after_due after_digit after_field after_number after_return digit table_heading bytes_of nothing
rows_refused = refl

-- 40 is given exactly where the text is longer than what is lent, before any fault in it
pub lengths_refused :
    text_fault (bytes_of "x") 2 ∷ text_fault (bytes_of "x") 1 ∷ text_fault (bytes_of "identifier,parent,share\r\nx") 25 ∷ []
    ≡ at 40 0 ∷ at 41 1 ∷ nothing ∷ []
unfolding
    text_fault length_refused given or_else text_refused scan_refused fault_at line_of read_text with_bytes with_byte ends_row with_row after place_after lines_after number_after after_heading after_due after_digit after_field after_number after_return digit table_heading bytes_of nothing
lengths_refused = refl

-- ── numbers at the edges ──

pub numbers_written :
    decimal 0 ∷ decimal 9 ∷ decimal 10 ∷ decimal (2 ^ 64 - 1) ∷ signed (pos 0) ∷ signed (negsuc 0) ∷ signed (negsuc (2 ^ 63 - 1)) ∷ []
    ≡ map bytes_of ("0" ∷ "9" ∷ "10" ∷ "18446744073709551615" ∷ "0" ∷ "-1" ∷ "-9223372036854775808" ∷ [])
unfolding decimal digits signed bytes_of
numbers_written = refl
