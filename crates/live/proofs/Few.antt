-- How many events the bytes of one read end at most: before its end the line of an event has a number, a comma and a number.
-- Assumes nothing.
use Prim.Native.Nat.{ℕ, zero, suc, ◌+◌, ◌-◌, ◌*◌, ◌^◌, ◌≤◌, min}
use mathlib.Core.Path.{◌≡◌, refl}
use mathlib.Core.Bool.{Bool, true, false, cond}
use mathlib.Core.List.{List, [], ◌∷◌}
use native.Mathlib.Omega.{arith}
use lib.Dec.{eqb}
use lib.ListN.{length}
use borrow.Author.Tests.{ne_eqb, eqb-true}
use Rattle.text.specs.declared.Field.{Field}
use Rattle.text.specs.declared.Field.TheVariants.{Empty, Number, Over, Other}
use Rattle.text.specs.declared.Line.{Line}
use Rattle.std.specs.Prelude.{Err}
use Rattle.text.specs.declared.Fault.TheVariants.{WrongCount}
use Rattle.text.specs.declared.Scan.{Scan}
use Rattle.text.specs.Reading.{empty_line, comma, carriage_return, line_feed, with_byte, commas_with, field_with, grown, settled, holding, longer, number_in, row_of, numbers, shown, wrong, lines_after, ended, within, after, after_all}

-- ── one line ──

-- 1 for a field that has begun
filled : Field → ℕ
filled Empty = 0
filled (Number n) = 1
filled Over = 1
filled Other = 1

-- how many of its three parts a line has
parts : Line → ℕ
parts line = filled line.first + min 1 line.commas + filled line.second

one_if : Bool → ℕ
one_if b = cond b 1 0

-- how many bytes it has at least, up to three; a CR that is held back is one of them
begun : Line → ℕ
begun line = min 3 (parts line + one_if line.held)

filled_most : (field : Field) → filled field ≤ 1
unfolding filled
filled_most Empty = omega arith
filled_most (Number n) = omega arith
filled_most Over = omega arith
filled_most Other = omega arith

-- a byte begins a field at its place alone
field_grows : (commas byte place : ℕ) (field : Field) → filled (field_with commas byte place field) ≤ filled field + one_if (eqb commas place)
unfolding field_with one_if
field_grows commas byte place field = go (eqb byte comma) (eqb commas place)
  where
    go : (b c : Bool) → filled (cond b field (cond c (with_byte field byte) field)) ≤ filled field + cond c 1 0
    go true c = omega arith
    go false true = omega (arith, filled_most (with_byte field byte))
    go false false = omega arith

-- and no comma begins one
comma_alone : (commas byte place : ℕ) (field : Field) → eqb byte comma ≡ true → filled (field_with commas byte place field) ≡ filled field
unfolding field_with
comma_alone commas byte place field is = rw is

one_place : (commas : ℕ) → one_if (eqb commas 0) + one_if (eqb commas 1) ≤ 1
unfolding one_if
one_place zero = omega arith
one_place (suc zero) = omega arith
one_place (suc (suc commas)) =
    rw (ne_eqb (suc (suc commas)) 0 (λ same. omega arith), ne_eqb (suc (suc commas)) 1 (λ same. omega arith)) (omega arith)

grows : (line : Line) (byte : ℕ) → parts (grown line byte) ≤ suc (parts line)
unfolding parts grown commas_with
grows line byte = go (eqb byte comma) refl
  where
    go :
        (b : Bool) → eqb byte comma ≡ b
        → filled (field_with line.commas byte 0 line.first) + min 1 (cond (eqb byte comma) (min (line.commas + 1) 2) line.commas)
        + filled (field_with line.commas byte 1 line.second)
        ≤ suc (filled line.first + min 1 line.commas + filled line.second)
    go true is =
        rw (is, comma_alone line.commas byte 0 line.first is, comma_alone line.commas byte 1 line.second is) (omega arith)
    go false is =
        let first = field_grows line.commas byte 0 line.first in
        let second = field_grows line.commas byte 1 line.second in
        let place = one_place line.commas in
        rw is (omega arith)

settles : (line : Line) → parts (settled line) ≤ parts line + one_if line.held
unfolding settled one_if
settles line = go line.held
  where
    go : (b : Bool) → parts (cond b (grown line carriage_return) line) ≤ parts line + cond b 1 0
    go true = omega (arith, grows line carriage_return)
    go false = omega arith

-- where a CR is held back, and where a byte is added
held_back : (line now : Line) → parts now ≤ parts line + one_if line.held → begun (holding now) ≤ suc (begun line)
unfolding begun parts one_if
held_back line now less = omega arith

none_held : (line : Line) (byte : ℕ) → one_if (grown line byte).held ≡ 0
unfolding one_if grown
none_held line byte = refl

added : (line now : Line) (byte : ℕ) → parts now ≤ parts line + one_if line.held → begun (grown now byte) ≤ suc (begun line)
unfolding begun
added line now byte less = omega (arith, grows now byte, none_held now byte)

lengthens : (line : Line) (byte : ℕ) → begun (longer line byte) ≤ suc (begun line)
unfolding longer
lengthens line byte = go (eqb byte carriage_return)
  where
    go : (b : Bool) → begun (cond b (holding (settled line)) (grown (settled line) byte)) ≤ suc (begun line)
    go true = held_back line (settled line) (settles line)
    go false = added line (settled line) byte (settles line)

-- ── what a line shows ──

-- the line of an event has all three parts
numbers_whole : (line : Line) → wrong (numbers line) ≡ false → filled line.first + filled line.second ≡ 2
unfolding numbers number_in row_of filled
numbers_whole line good = go line.first line.second good
  where
    go : (first second : Field) → wrong (row_of (number_in 1 first) (number_in 2 second)) ≡ false → filled first + filled second ≡ 2
    go (Number n) (Number m) good = refl
    go (Number n) Empty good = absurd (let z : ◌≡◌ {A = ℕ} 0 1 = cc in omega arith)
    go (Number n) Over good = absurd (let z : ◌≡◌ {A = ℕ} 0 1 = cc in omega arith)
    go (Number n) Other good = absurd (let z : ◌≡◌ {A = ℕ} 0 1 = cc in omega arith)
    go Empty second good = absurd (let z : ◌≡◌ {A = ℕ} 0 1 = cc in omega arith)
    go Over second good = absurd (let z : ◌≡◌ {A = ℕ} 0 1 = cc in omega arith)
    go Other second good = absurd (let z : ◌≡◌ {A = ℕ} 0 1 = cc in omega arith)

shown_whole : (lines : ℕ) (line : Line) → wrong (shown (suc lines) line) ≡ false → begun line ≡ 3
unfolding shown begun parts
shown_whole lines line good = go (eqb line.commas 1) refl (rw (ne_eqb (suc lines) 0 (λ same. omega arith)) at good)
  where
    go : (b : Bool) → eqb line.commas 1 ≡ b → wrong (cond (eqb line.commas 1) (numbers line) (Err WrongCount)) ≡ false
        → min 3 (filled line.first + min 1 line.commas + filled line.second + one_if line.held) ≡ 3
    go true is good = let comma = eqb-true line.commas 1 is in let both = numbers_whole line (rw is at good) in omega arith
    go false is good = let bad = rw is at good in absurd (let z : ◌≡◌ {A = ℕ} 0 1 = cc in omega arith)

-- ── all the bytes of a read ──

-- four for each event, and what has begun of another
weight : Scan → ℕ
weight scan = 4 * (scan.lines - 1) + begun scan.line

nothing_begun : begun empty_line ≡ 0
unfolding begun parts filled one_if
nothing_begun = refl

ends : (scan : Scan) → weight (ended scan) ≤ suc (weight scan)
unfolding weight ended lines_after
ends scan = go scan.lines (wrong (shown scan.lines scan.line)) refl refl
  where
    go : (lines : ℕ) (b : Bool) → scan.lines ≡ lines → wrong (shown scan.lines scan.line) ≡ b
        → 4 * (cond (wrong (shown scan.lines scan.line)) scan.lines (min (scan.lines + 1) (2 ^ 63)) - 1) + begun empty_line
        ≤ suc (4 * (scan.lines - 1) + begun scan.line)
    go lines true same is = rw (is, nothing_begun) (omega arith)
    go zero false same is = rw (is, nothing_begun) (omega arith)
    go (suc lines) false same is =
        let three = shown_whole lines scan.line (rw same at is) in
        rw (is, nothing_begun) (omega arith)

lengthened : (scan : Scan) (byte : ℕ) → weight (within scan byte) ≤ suc (weight scan)
unfolding weight within
lengthened scan byte = omega (arith, lengthens scan.line byte)

grows_by_one : (scan : Scan) (byte : ℕ) → weight (after scan byte) ≤ suc (weight scan)
unfolding after
grows_by_one scan byte = go (wrong scan.found) (eqb byte line_feed)
  where
    go : (b c : Bool) → weight (cond b scan (cond c (ended scan) (within scan byte))) ≤ suc (weight scan)
    go true c = omega arith
    go false true = ends scan
    go false false = lengthened scan byte

weighs : (bytes : List ℕ) (scan : Scan) → weight (after_all scan bytes) ≤ weight scan + length bytes
unfolding after_all
weighs [] scan = omega arith
weighs (byte ∷ bytes) scan = omega (arith, weighs bytes (after scan byte), grows_by_one scan byte)

-- 65,536 bytes of a list in which only the heading was read, or not yet that
pub few_events : (bytes : List ℕ) (scan : Scan) → scan.lines ≤ 1 → length bytes ≤ 65536 → (after_all scan bytes).lines - 1 ≤ 16384
unfolding weight begun
few_events bytes scan first few = omega (arith, weighs bytes scan)
