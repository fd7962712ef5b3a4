-- A text byte by byte: one byte more, how many lines and rows there are, and the slices that the rows go to.
-- Assumes nothing.
use Prim.Native.Nat.{ℕ, zero, suc, ◌+◌, ◌-◌, ◌≤◌, ◌<◌}
use mathlib.Core.Path.{◌≡◌, refl, sym, ap, ◌∙◌}
use mathlib.Core.Bool.{Bool, true, false, cond, ◌&&◌, true≢false}
use mathlib.Core.List.{List, [], ◌∷◌, ◌++◌}
use native.Mathlib.Omega.{arith}
use native.Mathlib.Numerals.{add-one}
use lib.Dec.{ltb, eqb}
use lib.ListN.{length, get_or, set, take, drop, take-append-drop}
use lib.Seq.{take-suc, length-take-le}
use borrow.Author.Tests.{lt-ltb, le-ltb, ltb-true, ltb-false}
use Rattle.input.specs.Classes.{Table}
use Rattle.rules.specs.Outcome.{over}
use Rattle.rules.proofs.Over.{over_more}
use Rattle.forms.specs.declared.Place.{Place}
use Rattle.forms.specs.declared.Place.TheVariants.{Heading, Due, Number, Return, Fault}
use Rattle.forms.specs.declared.Scan.{Scan}
use Rattle.forms.specs.Bytes.{line_feed}
use Rattle.forms.specs.Faults.{Read, nothing_read, after, lines_after, ends_row, with_row, with_byte, with_bytes, read_text, table_in}
use Rattle.forms.specs.Outcomes.{table_over}
use Rattle.forms.proofs.AnyBytes.{read_level, rows_lines}
use Rattle.csv_text.specs.Kept.{Room, stored, keeping}

-- ── one byte more ──

all_joined : (read : Read) (a b : List ℕ) → with_bytes read (a ++ b) ≡ with_bytes (with_bytes read a) b
unfolding with_bytes
all_joined read [] b = refl
all_joined read (byte ∷ a) b = all_joined (with_byte read byte) a b

pub read_more : (text : List ℕ) (i : ℕ) → i < length text → read_text (take (i + 1) text) ≡ with_byte (read_text (take i text)) (get_or text i 0)
unfolding read_text with_bytes
read_more text i inside = rw (add-one, take-suc text i 0 inside) (all_joined nothing_read (take i text) (get_or text i 0 ∷ []))

pub scan_turn : (text : List ℕ) (i : ℕ) (scan : Scan) → i < length text → scan ≡ (read_text (take i text)).scan
    → after scan (get_or text i 0) ≡ (read_text (take (i + 1) text)).scan
unfolding with_byte
scan_turn text i scan inside now = rw (read_more text i inside, now)

-- ── lines ──

counted : (lines : ℕ) (test : Bool) → (lines ≤ cond test (suc lines) lines) × (cond test (suc lines) lines ≤ suc lines)
counted lines true = (omega arith, omega arith)
counted lines false = (omega arith, omega arith)

line_counted : (lines : ℕ) (place : Place) (byte : ℕ) → (lines ≤ lines_after lines place byte) × (lines_after lines place byte ≤ suc lines)
unfolding lines_after
line_counted lines (Heading read) byte = (omega arith, omega arith)
line_counted lines (Due field) byte = (omega arith, omega arith)
line_counted lines (Number field n) byte = (omega arith, omega arith)
line_counted lines Return byte = counted lines (eqb byte line_feed)
line_counted lines (Fault number) byte = (omega arith, omega arith)

pub lines_grow : (scan : Scan) (byte : ℕ) → (scan.lines ≤ (after scan byte).lines) × ((after scan byte).lines ≤ suc scan.lines)
unfolding after
lines_grow scan byte = line_counted scan.lines scan.place byte

lines_within : (read : Read) (bytes : List ℕ)
    → (read.scan.lines ≤ (with_bytes read bytes).scan.lines) × ((with_bytes read bytes).scan.lines ≤ read.scan.lines + length bytes)
unfolding with_bytes with_byte
lines_within read [] = (omega arith, omega arith)
lines_within read (byte ∷ bytes) =
    let one = lines_grow read.scan byte in
    let rest = lines_within (with_byte read byte) bytes in
    (omega (arith, one.0, rest.0), omega (arith, one.1, rest.1))

pub lines_most : (bytes : List ℕ) → (read_text bytes).scan.lines ≤ length bytes
unfolding read_text
lines_most bytes = omega (arith, (lines_within nothing_read bytes).1)

-- ── rows ──

-- a row ends with a line that is not the first
rows_after : (scan : Scan) (byte : ℕ) (ends : Bool) → ends_row scan byte ≡ ends
    → (after scan byte).lines - 1 ≡ cond ends (suc (scan.lines - 1)) (scan.lines - 1)
unfolding ends_row
rows_after scan byte ends known = go scan.lines (after scan byte).lines (lines_grow scan byte).0 (lines_grow scan byte).1 ends known
  where
    go : (now then : ℕ) → now ≤ then → then ≤ suc now → (ends : Bool) → (ltb 0 now && ltb now then) ≡ ends → then - 1 ≡ cond ends (suc (now - 1)) (now - 1)
    go zero then low high false e = omega arith
    go zero then low high true e = absurd (true≢false (sym e))
    go (suc now) then low high true e = let more = ltb-true (suc now) then (rw (lt-ltb 0 (suc now) (omega arith)) at e) in omega arith
    go (suc now) then low high false e = let same = ltb-false (suc now) then (rw (lt-ltb 0 (suc now) (omega arith)) at e) in omega arith

-- three lists of one length: a row for each line but the heading
rowed_text : (bytes : List ℕ)
    → (length (table_in bytes).identifiers ≡ (read_text bytes).scan.lines - 1)
    × (length (table_in bytes).parent_identifiers ≡ (read_text bytes).scan.lines - 1)
    × (length (table_in bytes).shares ≡ (read_text bytes).scan.lines - 1)
rowed_text bytes =
    let level = (read_level bytes).0 in
    (rows_lines bytes, level.parents ∙ rows_lines bytes, level.shares ∙ rows_lines bytes)

-- no prefix has more lines than all
pub lines_prefix : (text : List ℕ) (i : ℕ) → (read_text (take i text)).scan.lines ≤ (read_text text).scan.lines
unfolding read_text
lines_prefix text i =
    let whole : with_bytes nothing_read text ≡ with_bytes (with_bytes nothing_read (take i text)) (drop i text)
    = sym (ap (with_bytes nothing_read) (take-append-drop i text)) ∙ all_joined nothing_read (take i text) (drop i text) in
    rw whole (lines_within (with_bytes nothing_read (take i text)) (drop i text)).0

-- ── the slices ──

pub kept_none : (scan : Scan) (byte : ℕ) (lent : Table) → scan.lines ≡ 0 → keeping scan byte lent ≡ lent
unfolding keeping ends_row
kept_none scan byte lent none = rw none

pub kept_same : (scan : Scan) (byte : ℕ) (lent : Table) → ¬ (scan.lines ≡ 0) → (after scan byte).lines ≤ scan.lines → keeping scan byte lent ≡ lent
unfolding keeping ends_row
kept_same scan byte lent some same = rw (lt-ltb 0 scan.lines (omega arith), le-ltb scan.lines (after scan byte).lines same)

pub kept_row : (scan : Scan) (byte : ℕ) (lent : Table) → ¬ (scan.lines ≡ 0) → scan.lines < (after scan byte).lines
    → keeping scan byte lent ≡ stored lent (scan.lines - 1) scan.first scan.second scan.third
unfolding keeping ends_row
kept_row scan byte lent some more = rw (lt-ltb 0 scan.lines (omega arith), lt-ltb scan.lines (after scan byte).lines more)

set_over : (ws lent : List ℕ) (n v : ℕ) → length ws ≡ n → n < length lent → set (over ws lent) n v ≡ over (ws ++ v ∷ []) lent
set_over ws lent n v size room = over_more ws (v ∷ []) lent (over ws lent) n size (omega arith) refl

-- a turn of a copy: one word more
pub copy_turn : (words lent now : List ℕ) (i : ℕ) → i < length words → length words ≤ length lent → now ≡ over (take i words) lent
    → set now i (get_or words i 0) ≡ over (take (i + 1) words) lent
copy_turn words lent now i inside room held =
    rw (held, add-one, take-suc words i 0 inside)
    (set_over (take i words) lent i (get_or words i 0) (length-take-le i words (omega arith)) (omega arith))

-- the row that ends has room
row_room : (text : List ℕ) (i : ℕ) → i < length text → ends_row (read_text (take i text)).scan (get_or text i 0) ≡ true
    → suc ((read_text (take i text)).scan.lines - 1) ≤ length (table_in text).identifiers
unfolding table_in with_byte
row_room text i inside ends =
    let scan = (read_text (take i text)).scan in
    let more = rows_after scan (get_or text i 0) true ends in
    let next : (read_text (take (i + 1) text)).scan.lines ≡ (after scan (get_or text i 0)).lines = ap (λ (read : Read). read.scan.lines) (read_more text i inside) in
    omega (arith, more, next, lines_prefix text (i + 1), (rowed_text text).0)

turned : (text : List ℕ) (lent : Table) (i : ℕ) → i < length text → Room text lent
    → (ends : Bool) → ends_row (read_text (take i text)).scan (get_or text i 0) ≡ ends
    → keeping (read_text (take i text)).scan (get_or text i 0) (table_over (read_text (take i text)).table lent)
    ≡ table_over (with_byte (read_text (take i text)) (get_or text i 0)).table lent
unfolding keeping stored table_over with_byte with_row table_in
turned text lent i inside room false known = rw known
turned text lent i inside room true known =
    let table = (read_text (take i text)).table in
    let row = (read_text (take i text)).scan.lines - 1 in
    let rows = rowed_text (take i text) in
    let short = row_room text i inside known in
    rw (
      known,
      set_over table.identifiers lent.identifiers row _ rows.0 (omega (arith, short, room.identifiers)),
      set_over table.parent_identifiers lent.parent_identifiers row _ rows.1 (omega (arith, short, room.parents)),
      set_over table.shares lent.shares row _ rows.2 (omega (arith, short, room.shares)),
    )

-- a turn of `fill`: the slices hold the rows of one byte more
pub fill_turn : (text : List ℕ) (lent now : Table) (scan : Scan) (i : ℕ) → i < length text → Room text lent → scan ≡ (read_text (take i text)).scan
    → now ≡ table_over (read_text (take i text)).table lent → keeping scan (get_or text i 0) now ≡ table_over (read_text (take (i + 1) text)).table lent
fill_turn text lent now scan i inside room here held = rw (read_more text i inside, held, here) (turned text lent i inside room (ends_row (read_text (take i text)).scan (get_or text i 0)) refl)

-- nothing is held at first
pub fill_start : (lent : Table) → lent ≡ table_over (read_text []).table lent
unfolding table_over read_text with_bytes over
fill_start lent = refl
