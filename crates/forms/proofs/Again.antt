-- A text without a fault is the text of the table that is read of it.
-- Assumes nothing.
use Prim.Native.Nat.{ℕ, zero, suc, ◌+◌, ◌-◌, ◌*◌, ◌≤◌, ◌<◌}
use mathlib.Core.Path.{◌≡◌, refl, sym, ◌∙◌, ap}
use mathlib.Core.Bool.{Bool, true, false, cond, ◌&&◌}
use mathlib.Core.List.{List, [], ◌∷◌, ◌++◌, append_assoc, append-nil}
use native.Mathlib.Omega.{arith}
use lib.Dec.{leb, ltb, eqb, eqb-suc-zero}
use lib.ListN.{length, get_or, take, get_or-append}
use lib.Seq.{take-suc, take_all, get_or_at}
use borrow.Author.Tests.{ltb-true, ltb-false, leb-true, eqb-true, eqb-false, le-ltb, lt-ltb, ne_eqb}
use Rattle.input.specs.Classes.{Table}
use Rattle.input.specs.Refusals.{nothing}
use Rattle.output.specs.Numbers.{digit_zero, decimal}
use Rattle.output.proofs.Numbers.{digits_one, digits_more}
use Rattle.forms.specs.declared.Place.{Place}
use Rattle.forms.specs.declared.Place.TheVariants.{Heading, Due, Number, Return, Fault}
use Rattle.forms.specs.Bytes.{line_feed, carriage_return, comma, line_end, table_heading}
use Rattle.forms.specs.Texts.{row_line, row_lines, table_text}
use Rattle.forms.specs.Faults.{
  most,
  last_field,
  digit,
  after_heading,
  after_due,
  after_digit,
  after_field,
  after_number,
  after_return,
  place_after,
  scan_of,
  lines_after,
  number_after,
  after,
  Read,
  read_of,
  nothing_read,
  with_row,
  ends_row,
  with_byte,
  with_bytes,
  read_text,
  table_in,
  fault_at,
  scan_refused,
  text_refused,
}
use Rattle.forms.proofs.AnyBytes.{either, digit_range, Long, long_row, Sound, sound_byte, sound_none}

-- ── the text of what is read ──

-- the fields before this one, a comma after each
fields : ℕ → ℕ → ℕ → List ℕ
fields zero a b = []
fields (suc zero) a b = decimal a ++ comma ∷ []
fields (suc (suc f)) a b = decimal a ++ comma ∷ [] ++ decimal b ++ comma ∷ []

field_of : ℕ → ℕ → ℕ → ℕ → ℕ
field_of zero a b c = a
field_of (suc zero) a b c = b
field_of (suc (suc f)) a b c = c

-- a line up to its end: the heading, or a row under what is read
line : ℕ → ℕ → ℕ → ℕ → Table → List ℕ
line zero a b c table = table_heading
line (suc lines) a b c table = table_text table ++ (fields 2 a b ++ decimal c)

-- these bytes are what was read
abbrev Stands : ℕ → Place → ℕ → ℕ → ℕ → Table → List ℕ → Type 0
Stands lines (Heading read) a b c table text = (lines ≡ 0) × (read ≤ length table_heading) × (text ≡ take read table_heading)
Stands lines (Due f) a b c table text = (0 < lines) × (f ≤ last_field) × (text ≡ table_text table ++ fields f a b)
Stands lines (Number f n) a b c table text =
    (0 < lines) × (f ≤ last_field) × (n ≤ most) × (n ≡ field_of f a b c) × (text ≡ table_text table ++ (fields f a b ++ decimal n))
Stands lines Return a b c table text = text ≡ line lines a b c table ++ carriage_return ∷ []
Stands lines (Fault number) a b c table text = 0 < number

abbrev Reads : Read → List ℕ → Type 0
Reads read text = Stands read.scan.lines read.scan.place read.scan.first read.scan.second read.scan.third read.table text

-- ── one row more ──

rows_same : (table : Table) (n k a b c : ℕ) → Long table n → k ≤ n → row_lines (with_row table a b c) k ≡ row_lines table k
unfolding row_lines with_row
rows_same table n zero a b c long inside = refl
rows_same table n (suc k) a b c long inside =
    let identifiers = long.identifiers in
    let parents = long.parents in
    let shares = long.shares in
    rw (
      rows_same table n k a b c long (omega arith),
      get_or-append table.identifiers (a ∷ []) 0 k (omega arith),
      get_or-append table.parent_identifiers (b ∷ []) 0 k (omega arith),
      get_or-append table.shares (c ∷ []) 0 k (omega arith),
    )

last_row : (table : Table) (n a b c : ℕ) → Long table n → row_lines (with_row table a b c) (suc n) ≡ row_lines (with_row table a b c) n ++ row_line a b c
unfolding row_lines with_row
last_row table n a b c long =
    rw (
      get_or_at table.identifiers a [] 0 n long.identifiers,
      get_or_at table.parent_identifiers b [] 0 n long.parents,
      get_or_at table.shares c [] 0 n long.shares,
    )

table_more : (table : Table) (n a b c : ℕ) → Long table n → table_text (with_row table a b c) ≡ table_text table ++ row_line a b c
unfolding table_text
table_more table n a b c long =
    rw ((long_row table n a b c long).identifiers, long.identifiers)
    (rw (last_row table n a b c long, rows_same table n n a b c long (omega arith))
    (sym (append_assoc (table_heading ++ line_end) (row_lines table n) (row_line a b c))))

headed : (table : Table) → length table.identifiers ≡ 0 → table_heading ++ carriage_return ∷ [] ++ line_feed ∷ [] ≡ table_text table
unfolding table_text row_lines
headed table none = rw none (append_assoc table_heading (carriage_return ∷ []) (line_feed ∷ []) ∙ sym (append-nil (table_heading ++ line_end)))

-- ── one byte more ──

module _ (lines a b c : ℕ) (table : Table) (text : List ℕ) (byte : ℕ) where
  abbrev more : List ℕ
  more = text ++ byte ∷ []

  -- where the line goes on
  abbrev Next : Place → Type 0
  Next place = Stands lines place (number_after 0 a place) (number_after 1 b place) (number_after 2 c place) table more

  after_a_heading : (read : ℕ) → Stands lines (Heading read) a b c table text → Next (after_heading read byte)
  unfolding after_heading number_after line
  after_a_heading read (none, inside, same) =
      either Next (ltb read (length table_heading))
      (λ e. either Next (eqb (get_or table_heading read 0) byte) (λ f. (none, ltb-true read (length table_heading) e, goes_on e f)) (λ _. omega arith))
      (λ e. either Next (eqb byte carriage_return) (returns e) (λ _. either Next (eqb byte line_feed) (λ _. omega arith) (λ _. omega arith)))
    where
      goes_on : ltb read (length table_heading) ≡ true → eqb (get_or table_heading read 0) byte ≡ true → more ≡ take (suc read) table_heading
      goes_on e f =
          rw (same, ← eqb-true (get_or table_heading read 0) byte f)
          (sym (take-suc table_heading read 0 (ltb-true read (length table_heading) e)))

      returns : ltb read (length table_heading) ≡ false → eqb byte carriage_return ≡ true → more ≡ line lines a b c table ++ carriage_return ∷ []
      returns e f = rw (same, none, eqb-true byte carriage_return f, take_all read table_heading (ltb-false read (length table_heading) e))

  in_number : (f n : ℕ) → 0 < lines → f ≤ last_field → n ≤ most → more ≡ table_text table ++ (fields f a b ++ decimal n) → Next (Number f n)
  unfolding number_after fields field_of
  in_number zero n some inside small same = (some, inside, small, refl, same)
  in_number (suc zero) n some inside small same = (some, inside, small, refl, same)
  in_number (suc (suc zero)) n some inside small same = (some, inside, small, refl, same)
  in_number (suc (suc (suc f))) n some inside small same = absurd (omega arith)

  after_a_due : (f : ℕ) → Stands lines (Due f) a b c table text → Next (after_due f byte)
  unfolding after_due
  after_a_due f (some, inside, same) = either Next (digit byte) begins (λ _. omega arith)
    where
      begins : digit byte ≡ true → Next (Number f (byte - digit_zero))
      begins e =
          let range = digit_range byte e in
          let whole : digit_zero + (byte - digit_zero) ≡ byte = omega arith in
          in_number f (byte - digit_zero) some inside (omega arith)
          (rw (same, digits_one (byte - digit_zero) (omega arith), whole) (append_assoc (table_text table) (fields f a b) (byte ∷ [])))

  fields_more : (f n : ℕ) → f < last_field → n ≡ field_of f a b c → fields f a b ++ decimal n ++ comma ∷ [] ≡ fields (suc f) a b
  unfolding fields field_of
  fields_more zero n inside same = rw same
  fields_more (suc zero) n inside same = rw same
  fields_more (suc (suc f)) n inside same = absurd (omega arith)

  last_line : (f n lines : ℕ) → 0 < lines → f ≡ last_field → n ≡ field_of f a b c
      → table_text table ++ (fields f a b ++ decimal n) ≡ line lines a b c table
  unfolding line field_of
  last_line f n zero some last same = absurd (omega arith)
  last_line f n (suc lines) some last same = let whole = rw last at same in rw (last, whole)

  after_a_number : (f n : ℕ) → Stands lines (Number f n) a b c table text → Next (after_number f n byte)
  unfolding after_number after_digit after_field number_after
  after_a_number f n (some, inside, small, here, same) =
      either Next (digit byte)
      (λ e. either Next (eqb n 0) (λ _. omega arith) (λ g. either Next (leb (n * 10 + (byte - digit_zero)) most) (grows e g) (λ _. omega arith)))
      (λ _. either Next (eqb byte comma) (λ e. either Next (ltb f last_field) (parts e) (λ _. omega arith))
      (λ _. either Next (eqb byte carriage_return) (λ e. either Next (ltb f last_field) (λ _. omega arith) (returns e))
      (λ _. either Next (eqb byte line_feed) (λ _. omega arith) (λ _. omega arith))))
    where
      grows : digit byte ≡ true → eqb n 0 ≡ false → leb (n * 10 + (byte - digit_zero)) most ≡ true → Next (Number f (n * 10 + (byte - digit_zero)))
      grows e g h =
          let range = digit_range byte e in
          let none = eqb-false n 0 g in
          let least : 0 < n = omega arith in
          let room = leb-true (n * 10 + (byte - digit_zero)) most h in
          let whole : digit_zero + (byte - digit_zero) ≡ byte = omega arith in
          in_number f (n * 10 + (byte - digit_zero)) some inside room
          (rw (same, digits_more n (byte - digit_zero) least (omega arith) (omega arith), whole)
          (append_assoc (table_text table) (fields f a b ++ decimal n) (byte ∷ [])
          ∙ ap (λ (l : List ℕ). table_text table ++ l) (append_assoc (fields f a b) (decimal n) (byte ∷ []))))

      parts : eqb byte comma ≡ true → ltb f last_field ≡ true → Next (Due (suc f))
      parts e g =
          let inner = ltb-true f last_field g in (
            some,
            inner,
            rw (same, eqb-true byte comma e, ← fields_more f n inner here) (append_assoc (table_text table) (fields f a b ++ decimal n) (comma ∷ [])),
          )

      returns : eqb byte carriage_return ≡ true → ltb f last_field ≡ false → Next Return
      returns e g =
          let last = ltb-false f last_field g in
          rw (same, eqb-true byte carriage_return e, last_line f n lines some (omega arith) here)

-- ── a line's end ──

row_ended : (a b c : ℕ) → fields 2 a b ++ decimal c ++ carriage_return ∷ [] ++ line_feed ∷ [] ≡ row_line a b c
unfolding fields row_line
row_ended a b c = simp append_assoc

ended : (lines a b c : ℕ) (table : Table) (text : List ℕ) → Long table (lines - 1) → text ≡ line lines a b c table ++ carriage_return ∷ []
    → text ++ line_feed ∷ [] ≡ table_text (cond (ltb 0 lines && ltb lines (suc lines)) (with_row table a b c) table)
unfolding line
ended zero a b c table text long same = rw same (headed table long.identifiers)
ended (suc lines) a b c table text long same =
    rw (same, lt-ltb 0 (suc lines) (omega arith), lt-ltb (suc lines) (suc (suc lines)) (omega arith), table_more table (suc lines - 1) a b c long, ← row_ended a b c)
    (simp append_assoc)

-- where no line ends, no row does
pub no_end : (lines : ℕ) (place : Place) (a b c byte : ℕ) → lines_after lines place byte ≡ lines → ends_row (scan_of lines place a b c) byte ≡ false
unfolding ends_row after
no_end lines place a b c byte same = rw (same, le-ltb lines lines (omega arith)) (none (ltb 0 lines))
  where
    none : (b : Bool) → b && false ≡ false
    none true = refl
    none false = refl

after_a_return : (lines a b c : ℕ) (table : Table) (text : List ℕ) (byte : ℕ) → Long table (lines - 1) → Stands lines Return a b c table text
    → Reads (with_byte (read_of (scan_of lines Return a b c) table) byte) (text ++ byte ∷ [])
unfolding with_byte after place_after after_return lines_after number_after ends_row fields
after_a_return lines a b c table text byte long stands = go (eqb byte line_feed) refl
  where
    go : (found : Bool) → eqb byte line_feed ≡ found → Reads (with_byte (read_of (scan_of lines Return a b c) table) byte) (text ++ byte ∷ [])
    go true e =
        rw e (
          omega arith,
          omega arith,
          rw (eqb-true byte line_feed e) (ended lines a b c table text long stands ∙ sym (append-nil (table_text _))),
        )
    go false e = rw e (omega arith)

reads_byte : (lines : ℕ) (place : Place) (a b c : ℕ) (table : Table) (text : List ℕ) (byte : ℕ) → Long table (lines - 1)
    → Stands lines place a b c table text → Reads (with_byte (read_of (scan_of lines place a b c) table) byte) (text ++ byte ∷ [])
unfolding with_byte after place_after lines_after
reads_byte lines (Heading read) a b c table text byte long stands = rw (no_end lines (Heading read) a b c byte refl) (after_a_heading lines a b c table text byte read stands)
reads_byte lines (Due f) a b c table text byte long stands = rw (no_end lines (Due f) a b c byte refl) (after_a_due lines a b c table text byte f stands)
reads_byte lines (Number f n) a b c table text byte long stands = rw (no_end lines (Number f n) a b c byte refl) (after_a_number lines a b c table text byte f n stands)
reads_byte lines Return a b c table text byte long stands = after_a_return lines a b c table text byte long stands
reads_byte lines (Fault number) a b c table text byte long stands = stands

reads_bytes : (read : Read) (text bytes : List ℕ) → Sound read → Reads read text → Reads (with_bytes read bytes) (text ++ bytes)
unfolding with_bytes
reads_bytes read text [] sound reads = rw append-nil reads
reads_bytes read text (byte ∷ bytes) sound reads =
    rw append_assoc at
    (reads_bytes (with_byte read byte) (text ++ byte ∷ []) bytes (sound_byte read byte sound)
    (reads_byte read.scan.lines read.scan.place read.scan.first read.scan.second read.scan.third read.table text byte sound.long reads))

-- ── the whole text ──

whole : (lines : ℕ) (place : Place) (a b c : ℕ) (table : Table) (text : List ℕ) → Stands lines place a b c table text
    → (scan_refused (scan_of lines place a b c)).number ≡ 0 → table_text table ≡ text
unfolding scan_refused fault_at fields nothing
whole lines (Heading read) a b c table text stands none = absurd (omega arith)
whole lines (Due zero) a b c table text (some, inside, same) none = sym (same ∙ append-nil (table_text table))
whole lines (Due (suc f)) a b c table text stands none = absurd (let z = rw (eqb-suc-zero f) at none in omega arith)
whole lines (Number f n) a b c table text stands none = absurd (omega arith)
whole lines Return a b c table text stands none = absurd (omega arith)
whole lines (Fault number) a b c table text stands none = absurd (let z = rw (ne_eqb number 0 (λ e. omega arith)) at none in omega arith)

pub written_again : (bytes : List ℕ) → (text_refused bytes).number ≡ 0 → table_text (table_in bytes) ≡ bytes
unfolding text_refused table_in read_text
written_again bytes none =
    let read = with_bytes nothing_read bytes in
    whole read.scan.lines read.scan.place read.scan.first read.scan.second read.scan.third read.table bytes
    (reads_bytes nothing_read [] bytes sound_none (omega arith, omega arith, refl)) none
