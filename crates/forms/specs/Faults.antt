-- A table's text byte by byte: where each byte stands, the first fault, and the table that is read.
use Rattle.std.specs.Prelude.{ℕ, suc, ◌+◌, ◌-◌, ◌*◌, ◌^◌, min, Bool, cond, ◌&&◌, List, [], ◌∷◌, ◌++◌, leb, ltb, eqb, length, get_or}
use Rattle.input.specs.declared.Refusal.{Refusal}
use Rattle.input.specs.Classes.{Table}
use Rattle.input.specs.Refusals.{nothing}
use Rattle.input.specs.Lent.{table_of}
use Rattle.output.specs.Numbers.{digit_zero, digit_nine}
use Rattle.forms.specs.declared.Place.{Place}
use Rattle.forms.specs.declared.Place.TheVariants.{Heading, Due, Number, Return, Fault}
use Rattle.forms.specs.declared.Scan.{Scan}
use Rattle.forms.specs.Bytes.{line_feed, carriage_return, comma, table_heading}

-- the largest number that a field may hold
abbrev pub most : ℕ
most = 2 ^ 32 - 1

-- the last of three fields, which are counted from 0
abbrev pub last_field : ℕ
last_field = 2

unfoldable pub digit : ℕ → Bool
digit byte = leb digit_zero byte && leb byte digit_nine

-- ── where the next byte stands ──

-- so many bytes of the heading were read: 41, or 46 for an LF without its CR
unfoldable pub after_heading : ℕ → ℕ → Place
after_heading read byte =
    cond (ltb read (length table_heading)) (cond (eqb (get_or table_heading read 0) byte) (Heading (suc read)) (Fault 41))
    (cond (eqb byte carriage_return) Return (cond (eqb byte line_feed) (Fault 46) (Fault 41)))

-- a field begins: 42
unfoldable pub after_due : ℕ → ℕ → Place
after_due field byte = cond (digit byte) (Number field (byte - digit_zero)) (Fault 42)

-- a digit more: 43 after 0, 44 where the number is too large
unfoldable pub after_digit : ℕ → ℕ → ℕ → Place
after_digit field n d = cond (eqb n 0) (Fault 43) (cond (leb (n * 10 + d) most) (Number field (n * 10 + d)) (Fault 44))

-- a field ends: 45 for too many or too few of them, 46 for an LF without its CR, 42 for what ends no field
unfoldable pub after_field : ℕ → ℕ → Place
after_field field byte =
    cond (eqb byte comma) (cond (ltb field last_field) (Due (suc field)) (Fault 45))
    (cond (eqb byte carriage_return) (cond (ltb field last_field) (Fault 45) Return)
    (cond (eqb byte line_feed) (Fault 46) (Fault 42)))

unfoldable pub after_number : ℕ → ℕ → ℕ → Place
after_number field n byte = cond (digit byte) (after_digit field n (byte - digit_zero)) (after_field field byte)

-- a line ends: 46 for a CR without its LF
unfoldable pub after_return : ℕ → Place
after_return byte = cond (eqb byte line_feed) (Due 0) (Fault 46)

-- no byte changes a fault
unfoldable pub place_after : Place → ℕ → Place
place_after (Heading read) byte = after_heading read byte
place_after (Due field) byte = after_due field byte
place_after (Number field n) byte = after_number field n byte
place_after Return byte = after_return byte
place_after (Fault number) byte = Fault number

-- ── a scan: the lines that have ended, where it stands, and the numbers of its line so far ──

abbrev pub scan_of : ℕ → Place → ℕ → ℕ → ℕ → Scan
scan_of lines place first second third = record { lines = lines; place = place; first = first; second = second; third = third }

abbrev pub unread : Scan
unread = scan_of 0 (Heading 0) 0 0 0

-- a line has ended where its CR is followed by LF
unfoldable pub lines_after : ℕ → Place → ℕ → ℕ
lines_after lines Return byte = cond (eqb byte line_feed) (suc lines) lines
lines_after lines (Heading read) byte = lines
lines_after lines (Due field) byte = lines
lines_after lines (Number field n) byte = lines
lines_after lines (Fault number) byte = lines

-- the number of a field, as far as it is read
unfoldable pub number_after : ℕ → ℕ → Place → ℕ
number_after field before (Number at n) = cond (eqb at field) n before
number_after field before (Heading read) = before
number_after field before (Due at) = before
number_after field before Return = before
number_after field before (Fault number) = before

-- one byte more
unfoldable pub after : Scan → ℕ → Scan
after scan byte =
    let place = place_after scan.place byte in
    scan_of (lines_after scan.lines scan.place byte) place
    (number_after 0 scan.first place) (number_after 1 scan.second place) (number_after 2 scan.third place)

-- ── what is read of all bytes ──

-- a scan, and the table of the rows whose lines have ended
pub record Read : Type 0 where
  pub scan : Scan
  pub table : Table

abbrev pub read_of : Scan → Table → Read
read_of scan table = record { scan = scan; table = table }

abbrev pub nothing_read : Read
nothing_read = read_of unread (table_of [] [] [])

unfoldable pub with_row : Table → ℕ → ℕ → ℕ → Table
with_row table identifier parent share =
    table_of (table.identifiers ++ identifier ∷ []) (table.parent_identifiers ++ parent ∷ []) (table.shares ++ share ∷ [])

-- a line ends with this byte that is not the heading
unfoldable pub ends_row : Scan → ℕ → Bool
ends_row scan byte = ltb 0 scan.lines && ltb scan.lines (after scan byte).lines

unfoldable pub with_byte : Read → ℕ → Read
with_byte read byte =
    read_of (after read.scan byte)
    (cond (ends_row read.scan byte) (with_row read.table read.scan.first read.scan.second read.scan.third) read.table)

unfoldable pub with_bytes : Read → List ℕ → Read
with_bytes read [] = read
with_bytes read (byte ∷ bytes) = with_bytes (with_byte read byte) bytes

unfoldable pub read_text : List ℕ → Read
read_text bytes = with_bytes nothing_read bytes

-- the table that a text is, if it has no fault
unfoldable pub table_in : List ℕ → Table
table_in bytes = (read_text bytes).table

-- ── the first fault ──

-- a text may end where a line begins, and nowhere else: 47
unfoldable pub fault_at : Place → ℕ
fault_at (Fault number) = number
fault_at (Due field) = cond (eqb field 0) 0 47
fault_at (Heading read) = 47
fault_at (Number field n) = 47
fault_at Return = 47

-- lines are counted from 1, as far as a place can say
unfoldable pub line_of : ℕ → ℕ
line_of lines = min (suc lines) (2 ^ 32 - 1)

unfoldable pub scan_refused : Scan → Refusal
scan_refused scan =
    let number = fault_at scan.place in
    cond (eqb number 0) nothing (record { number = number; place = line_of scan.lines; second = 0 })

-- 41 to 47: the first fault, and its line
unfoldable pub text_refused : List ℕ → Refusal
text_refused bytes = scan_refused (read_text bytes).scan
