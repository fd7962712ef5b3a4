-- What reading leaves, case by case, by the tests that lead there.
-- Assumes nothing.
use Prim.Native.Nat.{ℕ, ◌-◌, ◌≤◌, ◌<◌}
use mathlib.Core.Path.{◌≡◌, refl, sym, ap, ◌∙◌}
use mathlib.Core.Bool.{Bool, true, false, ◌&&◌, ◌||◌, true≢false}
use mathlib.Core.Logic.{◌≢◌}
use mathlib.Core.List.{List}
use native.Mathlib.Decide.{ℕ_discrete}
use native.Mathlib.Omega.{arith}
use lib.ListN.{length, take}
use lib.Dec.{ltb}
use lib.Seq.{length-take-le}
use borrow.Author.Tests.{lt-ltb, le-ltb, eq-eqb, ne_eqb, leb-true, ltb-false}
use Rattle.input.specs.declared.Refusal.{Refusal}
use Rattle.input.specs.Classes.{Table}
use Rattle.input.specs.Limits.{most_rows}
use Rattle.input.specs.Refusals.{nothing, given, or_else, first, rows_refused, table_refused}
use Rattle.laws.proofs.Tree.Trees.{given_none}
use Rattle.tables.specs.Answers.{refusal_of}
use Rattle.tables.proofs.Firsts.{Plain, or_else_first, or_else_second, given_plain, or_else_plain, last_plain, table_plain}
use Rattle.forms.specs.declared.Scan.{Scan}
use Rattle.forms.specs.Faults.{read_text, scan_refused, text_refused, table_in}
use Rattle.csv_text.specs.Kept.{Room, first_rows, unfit}
use Rattle.forms.proofs.AnyBytes.{rows_lines}
use Rattle.forms.specs.Outcomes.{Rows, rows_left_of, rows_found, fault_found, rows_kept, rows_read, text_fault, length_refused, table_over, fits, count_refused}

-- ── the fault of a text ──

pub too_long : (text : List ℕ) (size : ℕ) → length text < size → text_fault text size ≡ refusal_of 40 0 0
unfolding text_fault length_refused given or_else nothing
too_long text size long = rw (lt-ltb (length text) size long)

pub fault_within : (text : List ℕ) (size : ℕ) → size ≤ length text → text_fault text size ≡ text_refused (take size text)
unfolding text_fault length_refused given or_else nothing
fault_within text size within = rw (le-ltb (length text) size within)

pub fault_is : (bytes : List ℕ) (scan : Scan) → scan ≡ (read_text bytes).scan → scan_refused scan ≡ text_refused bytes
unfolding text_refused
fault_is bytes scan same = ap scan_refused same

-- ── rows ──

pub rows_faulty : (text : List ℕ) (size : ℕ) (lent : Table) (fault : Refusal) → text_fault text size ≡ fault → ¬ (fault.number ≡ 0)
    → rows_read text size lent ≡ rows_left_of (fault_found fault) lent
unfolding rows_read
rows_faulty text size lent fault found some = rw (found, ne_eqb fault.number 0 some)

pub rows_good : (text : List ℕ) (size : ℕ) (lent : Table) → (text_fault text size).number ≡ 0 → rows_read text size lent ≡ rows_kept (table_in (take size text)) lent
unfolding rows_read
rows_good text size lent none = rw (eq-eqb (text_fault text size).number 0 none)

pub rows_fit : (table lent : Table) (rows : ℕ) → length table.identifiers ≡ rows → fits rows lent ≡ true
    → rows_kept table lent ≡ rows_left_of (rows_found rows true) (table_over table lent)
unfolding rows_kept
rows_fit table lent rows count room = rw (count, room)

pub rows_short : (table lent : Table) (rows : ℕ) → length table.identifiers ≡ rows → fits rows lent ≡ false
    → rows_kept table lent ≡ rows_left_of (rows_found rows false) lent
unfolding rows_kept
rows_short table lent rows count room = rw (count, room)

-- a row for each line but the heading
pub rows_count : (bytes : List ℕ) (scan : Scan) → scan ≡ (read_text bytes).scan → length (table_in bytes).identifiers ≡ scan.lines - 1
rows_count bytes scan same = rw same (rows_lines bytes)

both : (a b : Bool) → (a && b) ≡ true → (a ≡ true) × (b ≡ true)
both true b h = (refl, h)
both false b h = absurd (true≢false (sym h))

pub fits_lent : (rows : ℕ) (lent : Table) → fits rows lent ≡ true
    → (rows ≤ length lent.identifiers) × (rows ≤ length lent.parent_identifiers) × (rows ≤ length lent.shares)
unfolding fits
fits_lent rows lent room =
    let last = both _ _ room in
    let first = both _ _ last.0 in
    (leb-true rows _ first.0, leb-true rows _ first.1, leb-true rows _ last.1)

pub fits_room : (text : List ℕ) (lent : Table) (rows : ℕ) → length (table_in text).identifiers ≡ rows → fits rows lent ≡ true → Room text lent
fits_room text lent rows count room =
    let fit = fits_lent rows lent room in
    record { identifiers = omega (arith, count, fit.0); parents = omega (arith, count, fit.1); shares = omega (arith, count, fit.2) }

-- ── what refuses a table ──

-- a refusal that is the last of several
last_same : (r : Refusal) → Plain r → or_else r nothing ≡ r
last_same r plain = go (ℕ_discrete r.number 0)
  where
    go : Dec (r.number ≡ 0) → or_else r nothing ≡ r
    go (yes none) = or_else_second r nothing none ∙ sym (plain none)
    go (no some) = or_else_first r nothing some

module _ (read : Rows) (words : Table) (room : Bool) where
  pub unfit_fault : read.fault.number ≢ 0 → unfit read words room ≡ read.fault
  unfolding unfit first
  unfit_fault some = or_else_first _ _ some

  -- with number 0, nothing
  pub unfit_plain : Plain read.fault → Plain (unfit read words room)
  unfolding unfit first count_refused
  unfit_plain plain =
      or_else_plain _ _ plain (or_else_plain _ _ (given_plain _ 1 0 (omega arith))
      (or_else_plain _ _ (given_plain _ 3 0 (omega arith)) (last_plain _ (table_plain _))))

  module _ (fine : read.fault.number ≡ 0) where
    pub unfit_count : (count_refused read.rows).number ≢ 0 → unfit read words room ≡ count_refused read.rows
    unfolding unfit first
    unfit_count some = or_else_second _ _ fine ∙ or_else_first _ _ some

    module _ (few : (count_refused read.rows).number ≡ 0) where
      pub unfit_short : room ≡ false → unfit read words room ≡ refusal_of 3 0 0
      unfolding unfit first given or_else
      unfit_short short = rw (eq-eqb read.fault.number 0 fine, eq-eqb (count_refused read.rows).number 0 few, short)

      pub unfit_own : room ≡ true → unfit read words room ≡ table_refused (first_rows read.rows words)
      unfolding unfit first given nothing
      unfit_own fitting =
          or_else_second _ _ fine ∙ or_else_second _ _ few
          ∙ rw fitting (or_else_second nothing _ refl ∙ last_same _ (table_plain (first_rows read.rows words)))

-- as many rows as a table may have
pub few_rows : (rows : ℕ) → (count_refused rows).number ≡ 0 → (2 ≤ rows) × (rows ≤ most_rows)
unfolding count_refused
few_rows rows none =
    let tests = neither (ltb rows 2) (ltb most_rows rows) (given_none _ 0 0 none) in
    (ltb-false rows 2 tests.0, ltb-false most_rows rows tests.1)
  where
    neither : (a b : Bool) → (a || b) ≡ false → (a ≡ false) × (b ≡ false)
    neither true b h = absurd (true≢false h)
    neither false b h = (refl, h)

-- the words of so many rows are as many in each list
pub rows_right : (words : Table) (rows : ℕ) → (count_refused rows).number ≡ 0 → most_rows ≤ length words.identifiers
    → most_rows ≤ length words.parent_identifiers → most_rows ≤ length words.shares → rows_refused (first_rows rows words) ≡ nothing
unfolding rows_refused first_rows given
rows_right words rows none i p s =
    let few = few_rows rows none in
    rw (
      length-take-le rows words.identifiers (omega (arith, few.1)),
      length-take-le rows words.parent_identifiers (omega (arith, few.1)),
      length-take-le rows words.shares (omega (arith, few.1)),
      eq-eqb rows rows refl,
      le-ltb rows 2 few.0,
      le-ltb most_rows rows few.1,
    )

-- what refuses a table is what its reading gives
pub own_refusal : (table : Table) → rows_refused table ≡ nothing → or_else (rows_refused table) (table_refused table) ≡ table_refused table
unfolding nothing
own_refusal table right = or_else_second (rows_refused table) (table_refused table) (ap (λ (r : Refusal). r.number) right)
