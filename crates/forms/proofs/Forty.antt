-- 40 is given exactly where the text is longer than what is lent for it: no fault within a text has that number, and no refusal of a table.
-- Assumes nothing.
use Prim.Native.Nat.{ℕ, suc, ◌+◌, ◌-◌, ◌*◌, ◌≤◌, ◌<◌}
use mathlib.Core.Path.{◌≡◌, refl, sym, ◌∙◌}
use mathlib.Core.Bool.{Bool, true, false, cond}
use mathlib.Core.Logic.{◌≢◌}
use mathlib.Core.List.{List, [], ◌∷◌}
use native.Mathlib.Omega.{arith}
use native.Mathlib.Decide.{dec_le}
use lib.Dec.{leb, ltb, eqb}
use lib.ListN.{length, get_or, take}
use borrow.Author.Tests.{lt-ltb, le-ltb}
use Rattle.input.specs.declared.Refusal.{Refusal}
use Rattle.input.specs.Classes.{Table}
use Rattle.input.specs.Refusals.{nothing, given, or_else, first, rows_refused, table_refused}
use Rattle.input.proofs.Numbers.{table_has}
use Rattle.output.specs.Numbers.{digit_zero}
use Rattle.forms.specs.declared.Place.{Place}
use Rattle.forms.specs.declared.Place.TheVariants.{Heading, Due, Number, Return, Fault}
use Rattle.forms.specs.Bytes.{line_feed, carriage_return, comma, table_heading}
use Rattle.forms.specs.Faults.{
  Read,
  digit,
  most,
  last_field,
  after_heading,
  after_due,
  after_digit,
  after_field,
  after_number,
  after_return,
  place_after,
  after,
  nothing_read,
  with_byte,
  with_bytes,
  read_text,
  table_in,
  fault_at,
  scan_refused,
  text_refused,
}
use Rattle.forms.specs.Outcomes.{length_refused, text_fault, table_over, table_left_of, table_left, table_read, answer_of}

-- ── within a text ──

-- a fault has another number than 40
abbrev Other : Place → Type 0
Other (Fault number) = number ≢ 40
Other (Heading read) = Unit
Other (Due field) = Unit
Other (Number field n) = Unit
Other Return = Unit

one_of : (test : Bool) (a b : Place) → Other a → Other b → Other (cond test a b)
one_of true a b left right = left
one_of false a b left right = right

faulty : (number : ℕ) → 40 < number → Other (Fault number)
faulty number above e = omega arith

heading_other : (read byte : ℕ) → Other (after_heading read byte)
unfolding after_heading
heading_other read byte =
    one_of (ltb read (length table_heading)) _ _ (one_of (eqb (get_or table_heading read 0) byte) (Heading (suc read)) (Fault 41) tt (faulty 41 (omega arith)))
    (one_of (eqb byte carriage_return) Return _ tt
    (one_of (eqb byte line_feed) (Fault 46) (Fault 41) (faulty 46 (omega arith)) (faulty 41 (omega arith))))

digit_other : (field n d : ℕ) → Other (after_digit field n d)
unfolding after_digit
digit_other field n d =
    one_of (eqb n 0) (Fault 43) _ (faulty 43 (omega arith))
    (one_of (leb (n * 10 + d) most) (Number field (n * 10 + d)) (Fault 44) tt (faulty 44 (omega arith)))

field_other : (field byte : ℕ) → Other (after_field field byte)
unfolding after_field
field_other field byte =
    one_of (eqb byte comma) _ _ (one_of (ltb field last_field) (Due (suc field)) (Fault 45) tt (faulty 45 (omega arith)))
    (one_of (eqb byte carriage_return) _ _ (one_of (ltb field last_field) (Fault 45) Return (faulty 45 (omega arith)) tt)
    (one_of (eqb byte line_feed) (Fault 46) (Fault 42) (faulty 46 (omega arith)) (faulty 42 (omega arith))))

other_after : (place : Place) (byte : ℕ) → Other place → Other (place_after place byte)
unfolding place_after after_due after_number after_return
other_after (Heading read) byte fine = heading_other read byte
other_after (Due field) byte fine = one_of (digit byte) (Number field (byte - digit_zero)) (Fault 42) tt (faulty 42 (omega arith))
other_after (Number field n) byte fine = one_of (digit byte) _ _ (digit_other field n (byte - digit_zero)) (field_other field byte)
other_after Return byte fine = one_of (eqb byte line_feed) (Due 0) (Fault 46) tt (faulty 46 (omega arith))
other_after (Fault number) byte fine = fine

other_all : (read : Read) (bytes : List ℕ) → Other read.scan.place → Other (with_bytes read bytes).scan.place
unfolding with_bytes with_byte after
other_all read [] fine = fine
other_all read (byte ∷ bytes) fine = other_all (with_byte read byte) bytes (other_after read.scan.place byte fine)

either : (test : Bool) (a b : ℕ) → a ≢ 40 → b ≢ 40 → cond test a b ≢ 40
either true a b left right = left
either false a b left right = right

other_end : (place : Place) → Other place → fault_at place ≢ 40
unfolding fault_at
other_end (Heading read) fine = λ e. omega arith
other_end (Due field) fine = either (eqb field 0) 0 47 (λ e. omega arith) (λ e. omega arith)
other_end (Number field n) fine = λ e. omega arith
other_end Return fine = λ e. omega arith
other_end (Fault number) fine = fine

-- a refusal with another number
abbrev Not : Refusal → Type 0
Not refusal = refusal.number ≢ 40

one_not : (test : Bool) (a b : Refusal) → Not a → Not b → Not (cond test a b)
one_not true a b left right = left
one_not false a b left right = right

nothing_not : Not nothing
unfolding nothing
nothing_not e = omega arith

pub within_a_text : (bytes : List ℕ) → Not (text_refused bytes)
unfolding text_refused scan_refused read_text
within_a_text bytes =
    one_not (eqb (fault_at (read_text bytes).scan.place) 0) nothing _ nothing_not
    (other_end (read_text bytes).scan.place (other_all nothing_read bytes tt))

-- ── of a table ──

given_not : (test : Bool) (number place : ℕ) → number < 40 → Not (given test number place)
unfolding given
given_not test number place below = one_not test (record { number = number; place = place; second = 0 }) nothing (λ e. omega arith) nothing_not

or_not : (a b : Refusal) → Not a → Not b → Not (or_else a b)
unfolding or_else
or_not a b left right = one_not (eqb a.number 0) b a right left

pub of_a_table : (table : Table) → Not (table_refused table)
of_a_table = table_has (λ number. number ≢ 40) (λ e. omega arith) (λ number low high e. omega arith)

-- ── exactly ──

left_number : (refusal : Refusal) (table lent : Table) → (table_left refusal table lent).answer.number ≡ refusal.number
unfolding table_left
left_number refusal table lent = go (eqb refusal.number 0)
  where
    go : (b : Bool)
        → (cond b (table_left_of (answer_of refusal (length table.identifiers)) (table_over table lent)) (table_left_of (answer_of refusal 0) lent)).answer.number
        ≡ refusal.number
    go true = refl
    go false = refl

-- reading gives 40 wherever the text is longer than what is lent
pub longer_forty : (text : List ℕ) (size : ℕ) (lent : Table) → length text < size → (table_read text size lent).answer.number ≡ 40
unfolding table_read first text_fault length_refused given or_else nothing
longer_forty text size lent longer = left_number _ _ lent ∙ rw (lt-ltb (length text) size longer)

fault_not : (text : List ℕ) (size : ℕ) → size ≤ length text → Not (text_fault text size)
unfolding text_fault length_refused given
fault_not text size within = rw (le-ltb (length text) size within) (or_not nothing (text_refused (take size text)) nothing_not (within_a_text (take size text)))

-- and nowhere else
pub forty_longer : (text : List ℕ) (size : ℕ) (lent : Table) → (table_read text size lent).answer.number ≡ 40 → length text < size
unfolding table_read first rows_refused
forty_longer text size lent forty = go (dec_le size (length text))
  where
    go : Dec (size ≤ length text) → length text < size
    go (no longer) = omega arith
    go (yes within) =
        absurd
        (or_not (text_fault text size) _ (fault_not text size within)
        (or_not (given _ 1 0) _ (given_not _ 1 0 (omega arith))
        (or_not (given _ 3 0) _ (given_not _ 3 0 (omega arith)) (or_not (table_refused (table_in (take size text))) nothing (of_a_table (table_in (take size text))) nothing_not)))
        (sym (left_number _ _ lent) ∙ forty))
