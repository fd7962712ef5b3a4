-- How a list of events is read, byte by byte.
use Rattle.std.specs.Prelude.{ℕ, ◌+◌, ◌-◌, ◌*◌, ◌^◌, min, Bool, true, false, cond, ◌&&◌, List, [], ◌∷◌, leb, ltb, eqb, length, get_or, Option, Some, None, Result, Ok, Err, is_err}
use Rattle.text.specs.declared.Field.{Field}
use Rattle.text.specs.declared.Field.TheVariants.{Empty, Number, Over, Other}
use Rattle.text.specs.declared.Line.{Line}
use Rattle.text.specs.declared.Row.{Row}
use Rattle.text.specs.declared.Fault.{Fault}
use Rattle.text.specs.declared.Fault.TheVariants.{NoEnd, WrongHeading, WrongCount, NoNumber, TooLarge}
use Rattle.text.specs.declared.Scan.{Scan}

-- what the byte read last has shown: nothing, a whole line of numbers, or what is wrong with the line
abbrev pub Found : Type 0
Found = Result (Option Row) Fault

abbrev pub nothing : Found
nothing = Ok None

abbrev pub row : ℕ → ℕ → Found
row a b = Ok (Some (record { first = a; second = b }))

-- ── the bytes that count ──

abbrev pub line_feed : ℕ
line_feed = 10

abbrev pub carriage_return : ℕ
carriage_return = 13

abbrev pub comma : ℕ
comma = 44

-- the digit 0; the others follow it up to the digit 9
abbrev pub digit_zero : ℕ
digit_zero = 48

abbrev pub digit_nine : ℕ
digit_nine = 57

-- class,length
unfoldable pub heading : List ℕ
heading = 99 ∷ 108 ∷ 97 ∷ 115 ∷ 115 ∷ 44 ∷ 108 ∷ 101 ∷ 110 ∷ 103 ∷ 116 ∷ 104 ∷ []

-- ── a field ──

-- the largest number that a field may hold
abbrev pub most : ℕ
most = 2 ^ 32 - 1

abbrev pub number_or_over : ℕ → Field
number_or_over n = cond (leb n most) (Number n) Over

unfoldable pub with_digit : Field → ℕ → Field
with_digit Empty d = Number d
with_digit (Number n) d = number_or_over (n * 10 + d)
with_digit Over d = Over
with_digit Other d = Other

-- a field with one byte more
unfoldable pub with_byte : Field → ℕ → Field
with_byte field byte = cond (leb digit_zero byte && leb byte digit_nine) (with_digit field (byte - digit_zero)) Other

-- a field with some bytes more, one after the other
unfoldable pub with_bytes : Field → List ℕ → Field
with_bytes field [] = field
with_bytes field (byte ∷ bytes) = with_bytes (with_byte field byte) bytes

-- the field that all these bytes make
unfoldable pub field_of : List ℕ → Field
field_of bytes = with_bytes Empty bytes

-- ── a line ──

abbrev pub empty_line : Line
empty_line = record { agreed = Some 0; commas = 0; first = Empty; second = Empty; held = false }

-- how many bytes a line has, as long as they are those of the heading
unfoldable pub agreed_with : Option ℕ → ℕ → Option ℕ
agreed_with None byte = None
agreed_with (Some agreed) byte =
    cond (ltb agreed (length heading) && eqb (get_or heading agreed 0) byte) (Some (agreed + 1)) None

-- how many commas a line has, 2 for two or more
unfoldable pub commas_with : ℕ → ℕ → ℕ
commas_with commas byte = cond (eqb byte comma) (min (commas + 1) 2) commas

-- the field at a place, from 0: a byte belongs to it after as many commas
unfoldable pub field_with : ℕ → ℕ → ℕ → Field → Field
field_with commas byte place field = cond (eqb byte comma) field (cond (eqb commas place) (with_byte field byte) field)

-- a line with one byte more that is part of it
unfoldable pub grown : Line → ℕ → Line
grown line byte =
    record {
      agreed = agreed_with line.agreed byte;
      commas = commas_with line.commas byte;
      first = field_with line.commas byte 0 line.first;
      second = field_with line.commas byte 1 line.second;
      held = false;
    }

-- a CR is held back, since it is no part of the line if the line ends here
abbrev pub holding : Line → Line
holding line =
    record {
      agreed = line.agreed;
      commas = line.commas;
      first = line.first;
      second = line.second;
      held = true;
    }

-- the line goes on, so a CR that was held back is part of it
unfoldable pub settled : Line → Line
settled line = cond line.held (grown line carriage_return) line

-- a line with one byte more, which is no LF
unfoldable pub longer : Line → ℕ → Line
longer line byte = cond (eqb byte carriage_return) (holding (settled line)) (grown (settled line) byte)

-- ── what a line shows when it ends ──

unfoldable pub heading_shown : Option ℕ → Found
heading_shown None = Err WrongHeading
heading_shown (Some agreed) = cond (eqb agreed (length heading)) nothing (Err WrongHeading)

-- how many commas a line of numbers has
abbrev pub wanted_commas : ℕ
wanted_commas = 1

-- the number in a field, or what is wrong with the field, by its place in the line, from 1
unfoldable pub number_in : ℕ → Field → Result ℕ Fault
number_in place Empty = Err (NoNumber place)
number_in place (Number n) = Ok n
number_in place Over = Err (TooLarge place)
number_in place Other = Err (NoNumber place)

-- a row of two numbers, or what is wrong with the first of them that is none
unfoldable pub row_of : Result ℕ Fault → Result ℕ Fault → Found
row_of (Err fault) second = Err fault
row_of (Ok a) (Err fault) = Err fault
row_of (Ok a) (Ok b) = row a b

-- the numbers of a line, or what is wrong with the first field that has none
unfoldable pub numbers : Line → Found
numbers line = row_of (number_in 1 line.first) (number_in 2 line.second)

-- the first line is the heading, and any other has as many fields as it should, each a number
unfoldable pub shown : ℕ → Line → Found
shown lines line =
    cond (eqb lines 0) (heading_shown line.agreed)
    (cond (eqb line.commas wanted_commas) (numbers line) (Err WrongCount))

-- ── a file ──

abbrev pub unread : Scan
unread = record { lines = 0; inside = false; line = empty_line; found = nothing }

-- something is wrong with the line
abbrev pub wrong : Found → Bool
wrong found = is_err found

-- good lines are counted, up to 2 ^ 63
unfoldable pub lines_after : ℕ → Found → ℕ
lines_after lines found = cond (wrong found) lines (min (lines + 1) (2 ^ 63))

-- the line ends: it shows what it shows, and another may begin
unfoldable pub ended : Scan → Scan
ended scan =
    let found = shown scan.lines scan.line in
    record { lines = lines_after scan.lines found; inside = false; line = empty_line; found = found }

unfoldable pub within : Scan → ℕ → Scan
within scan byte =
    record { lines = scan.lines; inside = true; line = longer scan.line byte; found = nothing }

-- one byte more is read; once something is wrong, no byte changes that
unfoldable pub after : Scan → ℕ → Scan
after scan byte = cond (wrong scan.found) scan (cond (eqb byte line_feed) (ended scan) (within scan byte))

-- a file may not end within a line, and it has a heading
abbrev pub unended : Scan → Result (Unit {0}) Fault
unended scan = cond scan.inside (Err NoEnd) (cond (eqb scan.lines 0) (Err WrongHeading) (Ok tt))

-- what is wrong when the file ends
unfoldable pub at_end : Scan → Result (Unit {0}) Fault
at_end scan = elim scan.found [ Ok row ↦ unended scan | Err fault ↦ Err fault ]

-- all the bytes of a file are read
unfoldable pub after_all : Scan → List ℕ → Scan
after_all scan [] = scan
after_all scan (byte ∷ bytes) = after_all (after scan byte) bytes
