-- Which outcome writing has, by what is refused; and what stands on a page that has room for a text.
-- Assumes nothing.
use Prim.Native.Nat.{ℕ, ◌+◌, ◌*◌, ◌≤◌, ◌<◌}
use mathlib.Core.Path.{◌≡◌, refl, ap, ◌∙◌}
use mathlib.Core.Logic.{◌≢◌}
use mathlib.Core.List.{List, [], ◌∷◌}
use mathlib.Mathlib.Data.Bool.Basic.{or-eq-false-eq-eq-false-and-eq-false as or-is-false}
use native.Mathlib.Omega.{arith}
use lib.Dec.{ltb}
use lib.IntN.{ℤ}
use lib.ListN.{length, take, drop}
use lib.Seq.{take_at}
use borrow.Author.Tests.{ne_eqb, lt-ltb, le-ltb, ltb-false}
use Rattle.input.specs.declared.Refusal.{Refusal}
use Rattle.input.specs.Limits.{least_rows, most_rows}
use Rattle.input.specs.Classes.{Table}
use Rattle.input.specs.Refusals.{nothing, given, or_else, first, rows_refused, table_refused}
use Rattle.rules.specs.Outcome.{over}
use Rattle.tables.specs.Answers.{refusal_of}
use Rattle.tables.proofs.Firsts.{or_else_first, or_else_second, given_last, given_plain, or_else_plain, table_plain, first_append}
use Rattle.tables.proofs.Answering.{sized}
use Rattle.laws.proofs.Tree.Trees.{given_none, or_none}
use Rattle.output.specs.Pages.{Page, page_of, with_text, Puts}
use Rattle.output.proofs.Pages.{with_all}
use Rattle.forms.proofs.Room.{table_room, report_room}
use Rattle.forms.specs.Texts.{table_text, report_text}
use Rattle.forms.specs.Outcomes.{answer_of, text_left_of, text_left, length_refused, table_written, count_refused, results_refused, report_written}

-- ── a page ──

-- what stands on a page that had room for a text that was put on it: all of it
stands :
    (text : List ℕ) (first page : Page) → first.used ≡ 0 → length text ≤ length first.bytes → Puts text first page → take page.used page.bytes ≡ text
stands text first page unused room put =
    let all = put ∙ ap (λ (used : ℕ). with_text (page_of first.bytes used) text) unused ∙ with_all first.bytes text room in
    rw (ap (λ (p : Page). p.used) all, ap (λ (p : Page). p.bytes) all) (take_at text (drop (length text) first.bytes) (length text) refl)

-- ── the outcome ──

left_refused : (refusal : Refusal) (text lent : List ℕ) → refusal.number ≢ 0 → text_left refusal text lent ≡ text_left_of (answer_of refusal 0) lent
unfolding text_left
left_refused refusal text lent some = rw (ne_eqb refusal.number 0 some)

left_done : (text lent : List ℕ) → text_left nothing text lent ≡ text_left_of (answer_of nothing (length text)) (over text lent)
unfolding text_left nothing
left_done text lent = refl

too_short : (lent size : ℕ) → lent < size → length_refused lent size ≡ refusal_of 40 0 0
unfolding length_refused given
too_short lent size short = rw (lt-ltb lent size short)

long_enough : (lent size : ℕ) → size ≤ lent → length_refused lent size ≡ nothing
unfolding length_refused given
long_enough lent size long = rw (le-ltb lent size long)

none_else : (b : Refusal) → or_else nothing b ≡ b
unfolding nothing
none_else b = or_else_second nothing b refl

-- ── a table ──

-- the page that a table is put on
abbrev pub table_bytes : ℕ
table_bytes = 25 + 64 * most_rows

module _ (table : Table) (lent : List ℕ) where
  pub table_rows : (rows_refused table).number ≢ 0 → table_written table lent ≡ text_left_of (answer_of (rows_refused table) 0) lent
  unfolding table_written first
  table_rows some = rw (or_else_first (rows_refused table) _ some) (left_refused (rows_refused table) (table_text table) lent some)

  module _ (fits : (rows_refused table).number ≡ 0) where
    pub table_fits : length (table_text table) ≤ table_bytes
    table_fits = omega (arith, table_room table, (sized table fits).most)

    pub table_whole :
        (first page : Page) (bytes : List ℕ) → first.used ≡ 0 → length first.bytes ≡ table_bytes → Puts (table_text table) first page
        → bytes ≡ take page.used page.bytes → bytes ≡ table_text table
    table_whole first page bytes unused size put seen = seen ∙ stands (table_text table) first page unused (omega (arith, table_fits)) put

    pub table_short :
        length lent < length (table_text table)
        → table_written table lent ≡ text_left_of (answer_of (refusal_of 40 0 0) 0) lent
    unfolding table_written first
    table_short short =
        rw (or_else_second (rows_refused table) _ fits, too_short (length lent) (length (table_text table)) short, or_else_first (refusal_of 40 0 0) _ (omega arith))
        (left_refused (refusal_of 40 0 0) (table_text table) lent (omega arith))

    module _ (room : length (table_text table) ≤ length lent) where
      pub table_faulty : (table_refused table).number ≢ 0 → table_written table lent ≡ text_left_of (answer_of (table_refused table) 0) lent
      unfolding table_written first
      table_faulty some =
          rw (
            or_else_second (rows_refused table) _ fits,
            long_enough (length lent) (length (table_text table)) room,
            none_else (or_else (table_refused table) nothing),
            or_else_first (table_refused table) nothing some,
          )
          (left_refused (table_refused table) (table_text table) lent some)

      pub table_fine :
          (table_refused table).number ≡ 0
          → table_written table lent ≡ text_left_of (answer_of nothing (length (table_text table))) (over (table_text table) lent)
      unfolding table_written first
      table_fine none =
          let plain = table_plain table none in
          rw (
            or_else_second (rows_refused table) _ fits,
            long_enough (length lent) (length (table_text table)) room,
            plain,
            none_else (or_else nothing nothing),
            none_else nothing,
          )
          (left_done (table_text table) lent)

-- what refuses a table as it is read, once its lengths are right
pub table_said : (table : Table) → (rows_refused table).number ≡ 0 → or_else (rows_refused table) (table_refused table) ≡ table_refused table
table_said table fits = or_else_second (rows_refused table) (table_refused table) fits

-- ── a report with its lags ──

abbrev pub report_bytes : ℕ
report_bytes = 48 + 149 * most_rows

module _ (identifiers report : List ℕ) (lags : List ℤ) (lent : List ℕ) where
  abbrev text : List ℕ
  text = report_text identifiers report lags

  abbrev counted : Refusal
  counted = count_refused (length identifiers)

  abbrev results : Refusal
  results = results_refused (length identifiers) (length report) (length lags)

  -- 1 and 3, then 40
  in_order :
      first (counted ∷ results ∷ length_refused (length lent) (length text) ∷ []) ≡ or_else (or_else counted results)
      (or_else (length_refused (length lent) (length text)) nothing)
  unfolding first results_refused
  in_order =
      first_append (counted ∷ results ∷ []) (length_refused (length lent) (length text) ∷ [])
      ∙ ap (λ (r : Refusal). or_else (or_else counted r) (or_else (length_refused (length lent) (length text)) nothing))
      (given_last _ 3 0 (omega arith))

  few : counted.number ≡ 0 → length identifiers ≤ most_rows
  unfolding count_refused
  few none =
      let n = length identifiers in
      let both = (or-is-false (ltb n least_rows) (ltb most_rows n)).0 (given_none _ _ _ none) in
      ltb-false most_rows n both.1

  nothing_unfit : (or_else counted results).number ≡ 0 → or_else counted results ≡ nothing
  unfolding count_refused results_refused
  nothing_unfit = or_else_plain counted results (given_plain _ 1 0 (omega arith)) (given_plain _ 3 0 (omega arith))

  pub report_unfit :
      (or_else counted results).number ≢ 0
      → report_written identifiers report lags lent ≡ text_left_of (answer_of (or_else counted results) 0) lent
  unfolding report_written
  report_unfit some = rw (in_order, or_else_first (or_else counted results) _ some) (left_refused (or_else counted results) text lent some)

  module _ (fits : (or_else counted results).number ≡ 0) where
    pub report_fits : length text ≤ report_bytes
    report_fits = omega (arith, report_room identifiers report lags, few (or_none counted results fits).0)

    pub report_whole :
        (first page : Page) (bytes : List ℕ) → first.used ≡ 0 → length first.bytes ≡ report_bytes → Puts text first page
        → bytes ≡ take page.used page.bytes → bytes ≡ text
    report_whole first page bytes unused size put seen = seen ∙ stands text first page unused (omega (arith, report_fits)) put

    pub report_short : length lent < length text → report_written identifiers report lags lent ≡ text_left_of (answer_of (refusal_of 40 0 0) 0) lent
    unfolding report_written
    report_short short =
        rw (
          in_order,
          or_else_second (or_else counted results) _ fits,
          too_short (length lent) (length text) short,
          or_else_first (refusal_of 40 0 0) _ (omega arith),
        )
        (left_refused (refusal_of 40 0 0) text lent (omega arith))

    pub report_fine :
        length text ≤ length lent
        → report_written identifiers report lags lent ≡ text_left_of (answer_of nothing (length text)) (over text lent)
    unfolding report_written
    report_fine long =
        rw (
          in_order,
          nothing_unfit fits,
          long_enough (length lent) (length text) long,
          none_else (or_else nothing nothing),
          none_else nothing,
        )
        (left_done text lent)
