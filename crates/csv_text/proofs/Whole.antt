-- A table read whole: what was read into words of its own, and what refuses it.
-- Assumes nothing.
use Prim.Native.Nat.{ℕ, ◌≤◌}
use mathlib.Core.Path.{◌≡◌, refl, sym, ap, ◌∙◌}
use mathlib.Core.Bool.{Bool, true, false, not, true≢false}
use mathlib.Core.Logic.{◌≢◌}
use mathlib.Core.List.{List, [], ◌∷◌}
use native.Mathlib.Decide.{ℕ_discrete}
use native.Mathlib.Omega.{arith}
use lib.ListN.{length, take}
use lib.Seq.{take-append_seam}
use borrow.Author.Tests.{eq-eqb, ne_eqb, le-leb}
use Rattle.input.specs.declared.Refusal.{Refusal}
use Rattle.input.specs.Limits.{most_rows}
use Rattle.input.specs.Classes.{Table}
use Rattle.input.specs.Refusals.{nothing, given, first, rows_refused, table_refused}
use Rattle.rules.specs.Outcome.{over}
use Rattle.laws.proofs.Tree.Trees.{None, first_none, given_none}
use Rattle.tables.proofs.Firsts.{or_else_first, or_else_second}
use Rattle.forms.specs.Faults.{table_in}
use Rattle.forms.specs.Outcomes.{Rows, RowsLeft, rows_left_of, table_left_of, answer_of, rows_found, fault_found, rows_read, table_read, table_left, text_fault, table_over, fits, count_refused}
use Rattle.csv_text.specs.Kept.{Copyable, first_rows, unfit}
use Rattle.forms.proofs.AnyBytes.{read_level}
use Rattle.csv_text.proofs.Cases.{unfit_fault, unfit_plain, rows_faulty, rows_good, rows_fit, rows_short, few_rows, fits_lent}

-- ── the rows of a text ──

-- 1 goes by their number alone
counted : (bytes : List ℕ) → rows_refused (table_in bytes) ≡ count_refused (length (table_in bytes).identifiers)
unfolding rows_refused count_refused
counted bytes = rw ((read_level bytes).0.parents, (read_level bytes).0.shares, eq-eqb (length (table_in bytes).identifiers) (length (table_in bytes).identifiers) refl)

-- the first words of what was written over others
first_over : (table lent : Table) (rows : ℕ) → length table.identifiers ≡ rows → length table.parent_identifiers ≡ rows → length table.shares ≡ rows
    → first_rows rows (table_over table lent) ≡ table
unfolding first_rows table_over over
first_over table lent rows i p s =
    rw (
      ← i,
      take-append_seam table.identifiers _,
      i ∙ sym p,
      take-append_seam table.parent_identifiers _,
      p ∙ sym s,
      take-append_seam table.shares _,
    )

-- ── words of its own, as many as a table may have rows ──

module _
    (text : List ℕ) (size : ℕ) (before words lent : Table) (read : Rows)
    (wide : (length before.identifiers ≡ most_rows) × (length before.parent_identifiers ≡ most_rows) × (length before.shares ≡ most_rows))
    (ran : rows_left_of read words ≡ rows_read text size before) where
  abbrev table : Table
  table = table_in (take size text)

  abbrev rows : ℕ
  rows = length table.identifiers

  faulty : (text_fault text size).number ≢ 0 → read.fault ≡ text_fault text size
  unfolding fault_found
  faulty some = ap (λ (left : RowsLeft). left.read.fault) (ran ∙ rows_faulty text size before (text_fault text size) refl some)

  module _ (fine : (text_fault text size).number ≡ 0) where
    found : (room : Bool) → fits rows before ≡ room → read ≡ rows_found rows room
    found true room = ap (λ (left : RowsLeft). left.read) (ran ∙ rows_good text size before fine ∙ rows_fit table before rows refl room)
    found false room = ap (λ (left : RowsLeft). left.read) (ran ∙ rows_good text size before fine ∙ rows_short table before rows refl room)

    none : read.fault ≡ nothing
    unfolding rows_found
    none = ap (λ (r : Rows). r.fault) (found (fits rows before) refl)

    count : read.rows ≡ rows
    unfolding rows_found
    count = ap (λ (r : Rows). r.rows) (found (fits rows before) refl)

    module _ (few : rows ≤ most_rows) where
      room : fits rows before ≡ true
      unfolding fits
      room =
          rw (
            le-leb rows (length before.identifiers) (omega (arith, wide.0)),
            le-leb rows (length before.parent_identifiers) (omega (arith, wide.1)),
            le-leb rows (length before.shares) (omega (arith, wide.2)),
          )

      held : first_rows read.rows words ≡ table
      held =
          rw (
            ap (λ (left : RowsLeft). left.table) (ran ∙ rows_good text size before fine ∙ rows_fit table before rows refl room),
            count,
          )
          (first_over table before rows refl (read_level (take size text)).0.parents (read_level (take size text)).0.shares)

  abbrev refusals : Refusal
  refusals = first (text_fault text size ∷ rows_refused table ∷ given (not (fits rows lent)) 3 0 ∷ table_refused table ∷ [])

  -- what refuses the rows that were read is what refuses the text
  pub unfit_is : unfit read words (fits read.rows lent) ≡ refusals
  unfolding unfit first nothing
  unfit_is = by_fault (ℕ_discrete (text_fault text size).number 0)
    where
      by_count : (text_fault text size).number ≡ 0 → Dec ((count_refused rows).number ≡ 0) → unfit read words (fits read.rows lent) ≡ refusals
      by_count fine (yes few) = rw (none fine, count fine, counted (take size text), held_here) (or_else_second nothing _ refl ∙ sym (or_else_second _ _ fine))
        where
          held_here : first_rows rows words ≡ table
          held_here = ap (λ (n : ℕ). first_rows n words) (sym (count fine)) ∙ held fine (few_rows rows few).1
      by_count fine (no many) =
          rw (none fine, count fine, counted (take size text)) (or_else_second nothing _ refl ∙ or_else_first _ _ many ∙ sym (or_else_second _ _ fine ∙ or_else_first _ _ many))

      by_fault : Dec ((text_fault text size).number ≡ 0) → unfit read words (fits read.rows lent) ≡ refusals
      by_fault (yes fine) = by_count fine (ℕ_discrete (count_refused rows).number 0)
      by_fault (no some) = rw (faulty some) (or_else_first _ _ some ∙ sym (or_else_first _ _ some))

  module _ (refusal : Refusal) (asked : refusal ≡ unfit read words (fits read.rows lent)) where
    same : refusal ≡ refusals
    same = asked ∙ unfit_is

    pub refused_left : refusal.number ≢ 0 → table_left_of (answer_of refusal 0) lent ≡ table_read text size lent
    unfolding table_read table_left
    refused_left some = rw (← same, ne_eqb refusal.number 0 some)

    module _ (accepted : refusal.number ≡ 0) where
      tests : None (text_fault text size ∷ rows_refused table ∷ given (not (fits rows lent)) 3 0 ∷ table_refused table ∷ [])
      tests = first_none _ (sym (ap (λ (r : Refusal). r.number) same) ∙ accepted)

      fine : (text_fault text size).number ≡ 0
      fine = tests.0

      few : rows ≤ most_rows
      few = (few_rows rows (sym (ap (λ (r : Refusal). r.number) (counted (take size text))) ∙ tests.1.0)).1

      pub few_read : read.rows ≤ most_rows
      few_read = omega (arith, few, count fine)

      fitting : fits read.rows lent ≡ true
      fitting = ap (λ (n : ℕ). fits n lent) (count fine) ∙ turned (fits rows lent) (given_none _ 2 0 tests.1.1.0)
        where
          turned : (b : Bool) → not b ≡ false → b ≡ true
          turned true h = refl
          turned false h = absurd (true≢false h)

      pub copyable : most_rows ≤ length words.identifiers → most_rows ≤ length words.parent_identifiers → most_rows ≤ length words.shares
          → Copyable read.rows words lent
      copyable i p s =
          let room = fits_lent read.rows lent fitting in
          record {
            identifiers = omega (arith, few_read, i);
            parents = omega (arith, few_read, p);
            shares = omega (arith, few_read, s);
            identifiers_room = room.0;
            parents_room = room.1;
            shares_room = room.2;
          }

      plain : refusal ≡ nothing
      plain = asked ∙ unfit_plain read words (fits read.rows lent) (λ zero. none fine) (sym (ap (λ (r : Refusal). r.number) asked) ∙ accepted)

      pub done_left :
          table_left_of (answer_of nothing read.rows) (table_over (first_rows read.rows words) lent) ≡ table_read text size lent
      unfolding table_read table_left nothing
      done_left = rw (← same, plain, held fine few, count fine)

  -- a fault of the text
  pub fault_left : (fault : Refusal) → fault.number ≢ 0 → read ≡ fault_found fault → table_left_of (answer_of fault 0) lent ≡ table_read text size lent
  unfolding fault_found nothing
  fault_left fault some stopped = go (ℕ_discrete (text_fault text size).number 0)
    where
      here : read.fault ≡ fault
      here = ap (λ (r : Rows). r.fault) stopped

      go : Dec ((text_fault text size).number ≡ 0) → table_left_of (answer_of fault 0) lent ≡ table_read text size lent
      go (yes fine) = absurd (some (ap (λ (r : Refusal). r.number) (sym here ∙ none fine)))
      go (no more) =
          refused_left fault (sym (unfit_fault read words (fits read.rows lent) (rw here some) ∙ here)) some
