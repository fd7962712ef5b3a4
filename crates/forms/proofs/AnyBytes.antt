-- What is read of any bytes: three lists of one length, a row for each line that has ended but the heading, and words of 32 bits.
-- Assumes nothing.
use Prim.Native.Nat.{ℕ, zero, suc, ◌+◌, ◌-◌, ◌*◌, ◌^◌, ◌≤◌, ◌<◌}
use mathlib.Core.Path.{◌≡◌, refl, sym, ◌∙◌}
use mathlib.Core.Bool.{Bool, true, false, cond, ◌&&◌}
use mathlib.Core.List.{List, [], ◌∷◌, ◌++◌}
use mathlib.Mathlib.Data.Bool.Basic.{and-eq-true-eq-eq-true-and-eq-true as and-is-true}
use native.Mathlib.Omega.{arith}
use lib.Dec.{leb, ltb, eqb}
use lib.ListN.{length, get_or, length-append}
use borrow.Author.Tests.{ltb-true, ltb-false, leb-true}
use Rattle.input.specs.Classes.{Table}
use Rattle.output.specs.Numbers.{digit_zero, digit_nine}
use Rattle.output.proofs.Numbers.{digit_range as in_range}
use Rattle.forms.specs.declared.Place.{Place}
use Rattle.forms.specs.declared.Place.TheVariants.{Heading, Due, Number, Return, Fault}
use Rattle.forms.specs.Bytes.{line_feed, carriage_return, comma, table_heading}
use Rattle.forms.specs.Faults.{
  most,
  last_field,
  digit,
  after_heading,
  after_due,
  after_digit,
  after_field,
  after_number,
  after_return,
  place_after,
  lines_after,
  number_after,
  after,
  Read,
  nothing_read,
  with_row,
  ends_row,
  with_byte,
  with_bytes,
  read_text,
  table_in,
}
use Rattle.forms.specs.Outcomes.{Level, Words}

-- what holds of both branches holds of a choice
pub either : {A : Type 0} (P : A → Type 0) (c : Bool) {x y : A} → (c ≡ true → P x) → (c ≡ false → P y) → P (cond c x y)
either P true then otherwise = then refl
either P false then otherwise = otherwise refl

pub digit_range : (byte : ℕ) → digit byte ≡ true → (digit_zero ≤ byte) × (byte ≤ digit_nine)
unfolding digit
digit_range byte e = in_range byte e

-- ── words of 32 bits ──

abbrev Small : Place → Type 0
Small (Number field n) = n < 2 ^ 32
Small (Heading read) = Unit {0}
Small (Due field) = Unit {0}
Small Return = Unit {0}
Small (Fault number) = Unit {0}

small_after : (place : Place) (byte : ℕ) → Small (place_after place byte)
unfolding place_after after_heading after_due after_number after_digit after_field after_return
small_after (Heading read) byte =
    either Small (ltb read (length table_heading)) (λ _. either Small (eqb (get_or table_heading read 0) byte) (λ _. tt) (λ _. tt))
    (λ _. either Small (eqb byte carriage_return) (λ _. tt) (λ _. either Small (eqb byte line_feed) (λ _. tt) (λ _. tt)))
small_after (Due field) byte = either Small (digit byte) (λ e. let range = digit_range byte e in omega arith) (λ _. tt)
small_after (Number field n) byte =
    either Small (digit byte)
    (λ _. either Small (eqb n 0) (λ _. tt) (λ _. either Small (leb (n * 10 + (byte - digit_zero)) most) room (λ _. tt)))
    (λ _. either Small (eqb byte comma) (λ _. either Small (ltb field last_field) (λ _. tt) (λ _. tt))
    (λ _. either Small (eqb byte carriage_return) (λ _. either Small (ltb field last_field) (λ _. tt) (λ _. tt))
    (λ _. either Small (eqb byte line_feed) (λ _. tt) (λ _. tt))))
  where
    room : leb (n * 10 + (byte - digit_zero)) most ≡ true → n * 10 + (byte - digit_zero) < 2 ^ 32
    room e = let few = leb-true (n * 10 + (byte - digit_zero)) most e in omega arith
small_after Return byte = either Small (eqb byte line_feed) (λ _. tt) (λ _. tt)
small_after (Fault number) byte = tt

number_small : (field before : ℕ) (place : Place) → before < 2 ^ 32 → Small place → number_after field before place < 2 ^ 32
unfolding number_after
number_small field before (Number at n) small here = either (λ (m : ℕ). m < 2 ^ 32) (eqb at field) (λ _. here) (λ _. small)
number_small field before (Heading read) small here = small
number_small field before (Due at) small here = small
number_small field before Return small here = small
number_small field before (Fault number) small here = small

abbrev AllSmall : List ℕ → Type 0
AllSmall words = (i : ℕ) → get_or words i 0 < 2 ^ 32

small_more : (words : List ℕ) (word : ℕ) → AllSmall words → word < 2 ^ 32 → AllSmall (words ++ word ∷ [])
small_more [] word all small zero = small
small_more [] word all small (suc i) = omega arith
small_more (w ∷ words) word all small zero = all 0
small_more (w ∷ words) word all small (suc i) = small_more words word (λ j. all (suc j)) small i

-- ── a row for each line ──

-- the lists of a table are so long
pub record Long (table : Table) (n : ℕ) : Type 0 where
  pub identifiers : length table.identifiers ≡ n
  pub parents : length table.parent_identifiers ≡ n
  pub shares : length table.shares ≡ n

pub long_row : (table : Table) (n a b c : ℕ) → Long table n → Long (with_row table a b c) (suc n)
unfolding with_row
long_row table n a b c long =
    let identifiers = long.identifiers in
    let parents = long.parents in
    let shares = long.shares in
    record {
      identifiers = length-append table.identifiers (a ∷ []) ∙ omega arith;
      parents = length-append table.parent_identifiers (b ∷ []) ∙ omega arith;
      shares = length-append table.shares (c ∷ []) ∙ omega arith;
    }

words_row : (table : Table) (a b c : ℕ) → a < 2 ^ 32 → b < 2 ^ 32 → c < 2 ^ 32 → Words table → Words (with_row table a b c)
unfolding with_row
words_row table a b c first second third words =
    record {
      identifiers = small_more table.identifiers a words.identifiers first;
      parents = small_more table.parent_identifiers b words.parents second;
      shares = small_more table.shares c words.shares third;
    }

lines_grow : (lines : ℕ) (place : Place) (byte : ℕ) → (lines ≤ lines_after lines place byte) × (lines_after lines place byte ≤ suc lines)
unfolding lines_after
lines_grow lines Return byte = either (λ (n : ℕ). (lines ≤ n) × (n ≤ suc lines)) (eqb byte line_feed) (λ _. omega arith) (λ _. omega arith)
lines_grow lines (Heading read) byte = omega arith
lines_grow lines (Due field) byte = omega arith
lines_grow lines (Number field n) byte = omega arith
lines_grow lines (Fault number) byte = omega arith

-- where a row ends, a line does that is not the heading
one_row : (lines next : ℕ) → next ≤ suc lines → ltb 0 lines && ltb lines next ≡ true → next - 1 ≡ suc (lines - 1)
one_row lines next high e =
    let here = (and-is-true (ltb 0 lines) (ltb lines next)).0 e in
    let some = ltb-true 0 lines here.0 in
    let more = ltb-true lines next here.1 in
    omega arith

-- where no row ends, either no line ends or the heading does
no_row : (lines next : ℕ) → lines ≤ next → next ≤ suc lines → ltb 0 lines && ltb lines next ≡ false → next - 1 ≡ lines - 1
no_row lines next low high = go (ltb 0 lines) refl
  where
    go : (b : Bool) → ltb 0 lines ≡ b → b && ltb lines next ≡ false → next - 1 ≡ lines - 1
    go true _ e = let same = ltb-false lines next e in omega arith
    go false e _ = let none = ltb-false 0 lines e in omega arith

-- what holds of everything that is read
pub record Sound (read : Read) : Type 0 where
  pub first : read.scan.first < 2 ^ 32
  pub second : read.scan.second < 2 ^ 32
  pub third : read.scan.third < 2 ^ 32
  pub words : Words read.table
  pub long : Long read.table (read.scan.lines - 1)

pub sound_byte : (read : Read) (byte : ℕ) → Sound read → Sound (with_byte read byte)
unfolding with_byte after ends_row
sound_byte read byte sound =
    let scan = read.scan in
    let place = place_after scan.place byte in
    let next = lines_after scan.lines scan.place byte in
    let small = small_after scan.place byte in
    let grow = lines_grow scan.lines scan.place byte in
    record {
      first = number_small 0 scan.first place sound.first small;
      second = number_small 1 scan.second place sound.second small;
      third = number_small 2 scan.third place sound.third small;
      words =
          either Words (ends_row scan byte)
          (λ e. words_row read.table scan.first scan.second scan.third sound.first sound.second sound.third sound.words)
          (λ e. sound.words);
      long =
          either (λ (table : Table). Long table (next - 1)) (ends_row scan byte)
          (λ e. rw (one_row scan.lines next grow.1 e) (long_row read.table (scan.lines - 1) scan.first scan.second scan.third sound.long))
          (λ e. rw (no_row scan.lines next grow.0 grow.1 e) sound.long);
    }

sound_bytes : (read : Read) (bytes : List ℕ) → Sound read → Sound (with_bytes read bytes)
unfolding with_bytes
sound_bytes read [] sound = sound
sound_bytes read (byte ∷ bytes) sound = sound_bytes (with_byte read byte) bytes (sound_byte read byte sound)

pub sound_none : Sound nothing_read
sound_none =
    record {
      first = omega arith;
      second = omega arith;
      third = omega arith;
      words = record { identifiers = λ i. omega arith; parents = λ i. omega arith; shares = λ i. omega arith };
      long = record { identifiers = refl; parents = refl; shares = refl };
    }

sound_text : (bytes : List ℕ) → Sound (read_text bytes)
unfolding read_text
sound_text bytes = sound_bytes nothing_read bytes sound_none

pub read_level : (bytes : List ℕ) → Level (table_in bytes) × Words (table_in bytes)
unfolding table_in
read_level bytes =
    let long = (sound_text bytes).long in
    (record { parents = long.parents ∙ sym long.identifiers; shares = long.shares ∙ sym long.identifiers }, (sound_text bytes).words)

pub rows_lines : (bytes : List ℕ) → length (table_in bytes).identifiers ≡ (read_text bytes).scan.lines - 1
unfolding table_in
rows_lines bytes = (sound_text bytes).long.identifiers
