-- A table of words with level lists is read back from its text, which has no fault.
-- Assumes nothing.
use Prim.Native.Nat.{ℕ, zero, suc, ◌+◌, ◌-◌, ◌*◌, ◌/◌, ◌%◌, ◌^◌, ◌≤◌, ◌<◌}
use mathlib.Core.Path.{◌≡◌, refl, ◌∙◌, ap}
use mathlib.Core.Bool.{Bool, true, false, cond}
use mathlib.Core.List.{List, [], ◌∷◌, ◌++◌}
use native.Mathlib.Nat.{pow-suc}
use native.Mathlib.Omega.{arith}
use lib.Dec.{ltb, eqb}
use lib.ListN.{length, get_or, take}
use lib.Seq.{take-suc, take_all}
use borrow.Author.Tests.{ltb-true, ltb-false, le-ltb, le-leb, lt-ltb, ne_eqb}
use Rattle.output.specs.Quoted.{bytes_of}
use Rattle.input.specs.Classes.{Table}
use Rattle.input.specs.Lent.{table_of}
use Rattle.input.specs.Refusals.{nothing}
use Rattle.output.specs.Numbers.{digit_zero, digits, decimal}
use Rattle.output.proofs.Numbers.{is_digit as in_digits}
use Rattle.forms.specs.declared.Place.{Place}
use Rattle.forms.specs.declared.Place.TheVariants.{Due, Number}
use Rattle.forms.specs.Bytes.{comma, line_end, table_heading}
use Rattle.forms.specs.Texts.{row_line, row_lines, table_text}
use Rattle.forms.specs.Faults.{
  most,
  last_field,
  digit,
  after_heading,
  after_due,
  after_digit,
  after_field,
  after_number,
  after_return,
  place_after,
  scan_of,
  lines_after,
  number_after,
  after,
  Read,
  read_of,
  nothing_read,
  with_row,
  ends_row,
  with_byte,
  with_bytes,
  read_text,
  table_in,
  fault_at,
  scan_refused,
  text_refused,
}
use Rattle.forms.specs.Outcomes.{Level, Words}
use Rattle.forms.proofs.Again.{no_end}

-- some bytes after others
bytes_append : (read : Read) (bytes more : List ℕ) → with_bytes read (bytes ++ more) ≡ with_bytes (with_bytes read bytes) more
unfolding with_bytes
bytes_append read [] more = refl
bytes_append read (byte ∷ bytes) more = bytes_append (with_byte read byte) bytes more

abbrev at : ℕ → Place → ℕ → ℕ → ℕ → Table → Read
at lines place a b c table = read_of (scan_of lines place a b c) table

-- a number has been read so far
abbrev within : ℕ → ℕ → ℕ → ℕ → ℕ → ℕ → Table → Read
within lines f n a b c table = at lines (Number f n) (cond (eqb f 0) n a) (cond (eqb f 1) n b) (cond (eqb f 2) n c) table

is_digit : (d : ℕ) → d < 10 → digit (digit_zero + d) ≡ true
unfolding digit
is_digit d small = in_digits (digit_zero + d) (omega arith) (omega arith)

-- ── one byte ──

module _ (lines f a b c : ℕ) (table : Table) where
  first_digit : (d : ℕ) → d < 10 → with_byte (at lines (Due f) a b c table) (digit_zero + d) ≡ within lines f d a b c table
  unfolding with_byte after place_after after_due lines_after number_after
  first_digit d small =
      let same : digit_zero + d - digit_zero ≡ d = omega arith in
      rw (no_end lines (Due f) a b c (digit_zero + d) refl, is_digit d small, same)

  next_digit : (n d : ℕ) → 0 < n → d < 10 → n * 10 + d ≤ most → with_byte (within lines f n a b c table) (digit_zero + d) ≡ within lines f (n * 10 + d) a b c table
  unfolding with_byte after place_after after_number after_digit lines_after number_after
  next_digit n d some small room =
      let same : digit_zero + d - digit_zero ≡ d = omega arith in
      rw (
        no_end lines (Number f n) (cond (eqb f 0) n a) (cond (eqb f 1) n b) (cond (eqb f 2) n c) (digit_zero + d) refl,
        is_digit d small,
        same,
        ne_eqb n 0 (λ e. omega arith),
        le-leb (n * 10 + d) most room,
        twice (eqb f 0) (n * 10 + d) n a,
        twice (eqb f 1) (n * 10 + d) n b,
        twice (eqb f 2) (n * 10 + d) n c,
      )
    where
      twice : (test : Bool) (x y z : ℕ) → cond test x (cond test y z) ≡ cond test x z
      twice true x y z = refl
      twice false x y z = refl

  -- all digits of a number
  number_digits : (k n : ℕ) → n < 10 ^ suc k → n ≤ most → with_bytes (at lines (Due f) a b c table) (digits (suc k) n) ≡ within lines f n a b c table
  unfolding digits with_bytes
  number_digits zero n small room = rw (lt-ltb n 10 (omega arith)) (first_digit n (omega arith))
  number_digits (suc k) n small room = go (ltb n 10) refl (let more = pow-suc 10 (suc k) in number_digits k (n / 10) (omega arith) (omega arith))
    where
      go : (short : Bool) → ltb n 10 ≡ short → with_bytes (at lines (Due f) a b c table) (digits (suc k) (n / 10)) ≡ within lines f (n / 10) a b c table
          → with_bytes (at lines (Due f) a b c table) (cond short ((digit_zero + n) ∷ []) (digits (suc k) (n / 10) ++ (digit_zero + n % 10) ∷ [])) ≡ within lines f n a b c table
      go true e before = first_digit n (ltb-true n 10 e)
      go false e before =
          let large = ltb-false n 10 e in
          let same : n / 10 * 10 + n % 10 ≡ n = omega arith in
          bytes_append (at lines (Due f) a b c table) (digits (suc k) (n / 10)) ((digit_zero + n % 10) ∷ [])
          ∙ rw before (rw same at (next_digit (n / 10) (n % 10) (omega arith) (omega arith) (omega arith)))

  number_read : (n : ℕ) → n ≤ most → with_bytes (at lines (Due f) a b c table) (decimal n) ≡ within lines f n a b c table
  unfolding decimal
  number_read n room = number_digits 19 n (omega arith) room

  comma_read : (n : ℕ) → f < last_field → with_byte (at lines (Number f n) a b c table) comma ≡ at lines (Due (suc f)) a b c table
  unfolding with_byte after place_after after_number after_field digit lines_after number_after
  comma_read n inside = rw (no_end lines (Number f n) a b c comma refl, lt-ltb f last_field inside)

-- a comma, and the next number
next_read : (lines f n m a b c : ℕ) (table : Table) → f < last_field → m ≤ most
    → with_bytes (at lines (Number f n) a b c table) (comma ∷ decimal m) ≡ within lines (suc f) m a b c table
unfolding with_bytes
next_read lines f n m a b c table inside room =
    ap (λ (read : Read). with_bytes read (decimal m)) (comma_read lines f a b c table n inside) ∙ number_read lines (suc f) a b c table m room

-- ── one row ──

end_read : (lines n a b c : ℕ) (table : Table)
    → with_bytes (at (suc lines) (Number 2 n) a b c table) line_end ≡ at (suc (suc lines)) (Due 0) a b c (with_row table a b c)
unfolding with_bytes with_byte after place_after after_number after_field after_return digit lines_after number_after ends_row
end_read lines n a b c table =
    rw (le-ltb (suc lines) (suc lines) (omega arith), lt-ltb 0 (suc lines) (omega arith), lt-ltb (suc lines) (suc (suc lines)) (omega arith))

row_read : (lines a b c x y z : ℕ) (table : Table) → x ≤ most → y ≤ most → z ≤ most
    → with_bytes (at (suc lines) (Due 0) a b c table) (row_line x y z) ≡ at (suc (suc lines)) (Due 0) x y z (with_row table x y z)
unfolding row_line
row_read lines a b c x y z table first second third =
    rw (
      bytes_append (at (suc lines) (Due 0) a b c table) (decimal x ++ comma ∷ decimal y ++ comma ∷ decimal z) line_end,
      bytes_append (at (suc lines) (Due 0) a b c table) (decimal x ++ comma ∷ decimal y) (comma ∷ decimal z),
      bytes_append (at (suc lines) (Due 0) a b c table) (decimal x) (comma ∷ decimal y),
      number_read (suc lines) 0 a b c table x first,
      next_read (suc lines) 0 x y x b c table (omega arith) second,
      next_read (suc lines) 1 y z x y c table (omega arith) third,
    )
    (end_read lines z x y z table)

-- ── all rows ──

-- the number of the row before this one
before : List ℕ → ℕ → ℕ
before words zero = 0
before words (suc r) = get_or words r 0

rows_read : (table : Table) (n : ℕ) → Level table → Words table → n ≤ length table.identifiers
    → with_bytes (at 1 (Due 0) 0 0 0 (table_of [] [] [])) (row_lines table n)
    ≡ at (suc n) (Due 0) (before table.identifiers n) (before table.parent_identifiers n) (before table.shares n)
    (table_of (take n table.identifiers) (take n table.parent_identifiers) (take n table.shares))
unfolding row_lines with_bytes before with_row
rows_read table zero level words inside = refl
rows_read table (suc n) level words inside =
    let identifiers = words.identifiers n in
    let parents = words.parents n in
    let shares = words.shares n in
    let a = level.parents in
    let b = level.shares in
    bytes_append (at 1 (Due 0) 0 0 0 (table_of [] [] [])) (row_lines table n) _
    ∙ rw (
      rows_read table n level words (omega arith),
      take-suc table.identifiers n 0 (omega arith),
      take-suc table.parent_identifiers n 0 (omega arith),
      take-suc table.shares n 0 (omega arith),
    )
    (row_read n _ _ _ _ _ _ _ (omega arith) (omega arith) (omega arith))

heading_read : with_bytes nothing_read (table_heading ++ line_end) ≡ at 1 (Due 0) 0 0 0 (table_of [] [] [])
unfolding with_bytes with_byte after place_after after_heading after_return lines_after number_after ends_row table_heading bytes_of
heading_read = refl

whole_read : (table : Table) → Level table → Words table
    → read_text (table_text table)
    ≡ at (suc (length table.identifiers)) (Due 0) (before table.identifiers (length table.identifiers))
    (before table.parent_identifiers (length table.identifiers)) (before table.shares (length table.identifiers)) table
unfolding read_text table_text
whole_read table level words =
    let rows = length table.identifiers in
    let a = level.parents in
    let b = level.shares in
    bytes_append nothing_read (table_heading ++ line_end) (row_lines table rows)
    ∙ rw (
      heading_read,
      rows_read table rows level words (omega arith),
      take_all rows table.identifiers (omega arith),
      take_all rows table.parent_identifiers (omega arith),
      take_all rows table.shares (omega arith),
    )

pub read_back : (table : Table) → Level table → Words table → (table_in (table_text table) ≡ table) × (text_refused (table_text table) ≡ nothing)
unfolding table_in text_refused scan_refused fault_at
read_back table level words =
    let whole = whole_read table level words in
    (ap (λ (read : Read). read.table) whole, ap (λ (read : Read). scan_refused read.scan) whole)
