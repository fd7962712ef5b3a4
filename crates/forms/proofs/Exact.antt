-- A text is read as a table exactly where it is the text of an accepted table; what was written is read, and what was read is written.
-- Assumes nothing.
use Prim.Native.Nat.{ℕ, ◌≤◌}
use mathlib.Core.Path.{◌≡◌, refl, sym, ◌∙◌, ap}
use mathlib.Core.Bool.{Bool, true, false, cond, not}
use mathlib.Core.List.{List, [], ◌∷◌}
use native.Mathlib.Omega.{arith}
use lib.Dec.{eqb}
use lib.ListN.{length, take, drop, length-append, length-take, length-drop}
use lib.Seq.{take-append_seam}
use borrow.Author.Tests.{ltb-false, le-ltb, not-false}
use Rattle.input.specs.declared.Refusal.{Refusal}
use Rattle.input.specs.Classes.{Table}
use Rattle.input.specs.Refusals.{nothing, given, first, rows_refused, table_refused}
use Rattle.rules.specs.Outcome.{over}
use Rattle.laws.proofs.Tree.Trees.{or_none, None, first_none, given_none}
use Rattle.tables.proofs.Firsts.{or_else_second}
use Rattle.tables.proofs.Answering.{sized}
use Rattle.forms.specs.Texts.{table_text}
use Rattle.forms.specs.Faults.{table_in, text_refused}
use Rattle.forms.specs.Outcomes.{
  answer_of,
  TableLeft,
  table_over,
  table_left_of,
  table_left,
  length_refused,
  text_fault,
  fits,
  table_read,
  TextLeft,
  text_left_of,
  text_left,
  table_written,
  TableRead,
  TableWritten,
  Level,
  Words,
  Accepted,
}
use Rattle.forms.proofs.Again.{written_again}
use Rattle.forms.proofs.Back.{read_back}

-- ── refusals ──

all_none : (refusals : List Refusal) → None refusals → first refusals ≡ nothing
unfolding first
all_none [] none = refl
all_none (refusal ∷ later) none = or_else_second refusal (first later) none.0 ∙ all_none later none.1

level_of : (table : Table) → (rows_refused table).number ≡ 0 → Level table
level_of table none = let fine = sized table none in record { parents = fine.parents; shares = fine.shares }

-- a text is no longer than what is lent for it
length_none : (lent size : ℕ) → (length_refused lent size).number ≡ 0 → size ≤ lent
unfolding length_refused
length_none lent size none = ltb-false lent size (given_none _ _ _ none)

length_some : (lent size : ℕ) → size ≤ lent → (length_refused lent size).number ≡ 0
unfolding length_refused given nothing
length_some lent size room = rw (le-ltb lent size room)

fits_none : (rows : ℕ) (lent : Table) → fits rows lent ≡ true → (given (not (fits rows lent)) 3 0).number ≡ 0
unfolding given nothing
fits_none rows lent room = rw room

read_number : (refusal : Refusal) (table lent : Table) → (table_left refusal table lent).answer.number ≡ refusal.number
unfolding table_left
read_number refusal table lent = go (eqb refusal.number 0)
  where
    go : (b : Bool)
        → (cond b (table_left_of (answer_of refusal (length table.identifiers)) (table_over table lent)) (table_left_of (answer_of refusal 0) lent)
        ).answer.number ≡ refusal.number
    go true = refl
    go false = refl

written_number : (refusal : Refusal) (text lent : List ℕ) → (text_left refusal text lent).answer.number ≡ refusal.number
unfolding text_left
written_number refusal text lent = go (eqb refusal.number 0)
  where
    go : (b : Bool)
        → (cond b (text_left_of (answer_of refusal (length text)) (over text lent)) (text_left_of (answer_of refusal 0) lent)).answer.number
        ≡ refusal.number
    go true = refl
    go false = refl

-- ── reading ──

abbrev reading_refusals : List ℕ → ℕ → Table → Table → List Refusal
reading_refusals text size lent table =
    text_fault text size ∷ rows_refused table ∷ given (not (fits (length table.identifiers) lent)) 3 0 ∷ table_refused table ∷ []

reading_none : (text : List ℕ) (size : ℕ) (lent : Table) → (table_read text size lent).answer.number ≡ 0
    → Accepted (table_in (take size text)) × (take size text ≡ table_text (table_in (take size text)))
    × (fits (length (table_in (take size text)).identifiers) lent ≡ true)
unfolding table_read text_fault
reading_none text size lent ok =
    let table = table_in (take size text) in
    let none = first_none (reading_refusals text size lent table) (sym (read_number _ _ _) ∙ ok) in
    let faults = or_none (length_refused (length text) size) (text_refused (take size text)) none.0 in (
      rw (or_else_second (rows_refused table) (table_refused table) none.1.0) none.1.1.1.0,
      sym (written_again (take size text) faults.1),
      not-false (fits (length table.identifiers) lent) (given_none _ _ _ none.1.1.0),
    )

pub exactly : (text : List ℕ) (size : ℕ) (lent : Table) → size ≤ length text → (table_read text size lent).answer.number ≡ 0
    → Accepted (table_in (take size text)) × (take size text ≡ table_text (table_in (take size text)))
    × (fits (length (table_in (take size text)).identifiers) lent ≡ true)
exactly text size lent inside ok = reading_none text size lent ok

pub accepted : (table lent : Table) (text : List ℕ) (size : ℕ) → Accepted table → Words table → size ≤ length text → take size text ≡ table_text table
    → fits (length table.identifiers) lent ≡ true
    → table_read text size lent ≡ record { answer = answer_of nothing (length table.identifiers); table = table_over table lent }
unfolding table_read text_fault table_left nothing
accepted table lent text size ok words inside same room =
    let none = or_none (rows_refused table) (table_refused table) ok in
    let back = read_back table (level_of table none.0) words in
    let read : table_in (take size text) ≡ table = rw same back.0 in
    let whole : text_refused (take size text) ≡ nothing = rw same back.1 in
    let fault : (text_fault text size).number ≡ 0 =
    rw (or_else_second (length_refused (length text) size) (text_refused (take size text)) (length_some (length text) size inside), whole) in
    let nowhere = all_none (reading_refusals text size lent table) (fault, (none.0, (fits_none (length table.identifiers) lent room, (none.1, tt)))) in
    ap (λ (t : Table). table_left (first (reading_refusals text size lent t)) t lent) read
    ∙ ap (λ (refusal : Refusal). table_left refusal table lent) nowhere

-- ── writing ──

abbrev writing_refusals : Table → List ℕ → List Refusal
writing_refusals table lent = rows_refused table ∷ length_refused (length lent) (length (table_text table)) ∷ table_refused table ∷ []

written : (table : Table) (lent : List ℕ) → Accepted table → length (table_text table) ≤ length lent
    → table_written table lent ≡ text_left_of (answer_of nothing (length (table_text table))) (over (table_text table) lent)
unfolding table_written text_left nothing
written table lent ok room =
    let none = or_none (rows_refused table) (table_refused table) ok in
    ap (λ (refusal : Refusal). text_left refusal (table_text table) lent)
    (all_none (writing_refusals table lent) (none.0, (length_some (length lent) (length (table_text table)) room, (none.1, tt))))

-- an accepted table with room for its text is all that is written
written_only : (table : Table) (lent : List ℕ) → (table_written table lent).answer.number ≡ 0 → Accepted table × (length (table_text table) ≤ length lent)
unfolding table_written
written_only table lent ok =
    let none = first_none (writing_refusals table lent) (sym (written_number _ _ _) ∙ ok) in
    (rw (or_else_second (rows_refused table) (table_refused table) none.0) none.1.1.0, length_none (length lent) (length (table_text table)) none.1.0)

over_long : (text lent : List ℕ) → length text ≤ length lent → length text ≤ length (over text lent)
unfolding over
over_long text lent room = simp (length-append, length-drop) (omega arith)

over_text : (text lent : List ℕ) → take (length text) (over text lent) ≡ text
unfolding over
over_text text lent = take-append_seam text (drop (length text) lent)

-- ── there and back ──

pub same_table : (table lent : Table) (bytes : List ℕ) (left : TextLeft) (read : TableLeft) → Words table → TableWritten table bytes left
    → left.answer.number ≡ 0 → fits (length table.identifiers) lent ≡ true → TableRead left.bytes left.answer.count lent read
    → read ≡ record { answer = answer_of nothing (length table.identifiers); table = table_over table lent }
same_table table lent bytes left read words wrote ok room reads =
    let text = table_text table in
    let only = written_only table bytes (ap (λ (l : TextLeft). l.answer.number) (sym wrote) ∙ ok) in
    let whole = wrote ∙ written table bytes only.0 only.1 in
    reads
    ∙ ap (λ (l : TextLeft). table_read l.bytes l.answer.count lent) whole
    ∙ accepted table lent (over text bytes) (length text) only.0 words (over_long text bytes only.1) (over_text text bytes) room

pub same_bytes : (text : List ℕ) (size : ℕ) (lent : Table) (read : TableLeft) (bytes : List ℕ) (left : TextLeft) → TableRead text size lent read
    → read.answer.number ≡ 0 → TableWritten (table_in (take size text)) bytes left → size ≤ length bytes
    → (left.answer.number ≡ 0) × (left.bytes ≡ over (take size text) bytes)
unfolding nothing
same_bytes text size lent read bytes left reads ok wrote room =
    let table = table_in (take size text) in
    let parts = reading_none text size lent (ap (λ (l : TableLeft). l.answer.number) (sym reads) ∙ ok) in
    let short = length-take size text in
    let same = written table bytes parts.0 (rw (← parts.1) (omega arith)) in
    let whole = wrote ∙ same in
    (ap (λ (l : TextLeft). l.answer.number) whole, ap (λ (l : TextLeft). l.bytes) whole ∙ rw (← parts.1))
