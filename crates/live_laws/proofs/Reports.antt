-- The report of a live box: which number it answers exactly when, and where its words stand.
-- Assumes nothing.
use Prim.Native.Nat.{ℕ, ◌+◌, ◌*◌, ◌≤◌, ◌<◌}
use mathlib.Core.Path.{◌≡◌, refl, sym, ap, ◌∙◌}
use mathlib.Core.Logic.{◌≢◌, ◌⊎◌, inl, inr, ◌↔◌, ⊎_elim}
use mathlib.Core.Bool.{Bool, true, false, ◌||◌, or-true}
use mathlib.Core.List.{List, [], ◌∷◌}
use native.Mathlib.Omega.{arith}
use lib.Dec.{ltb}
use lib.ListN.{length, get_or}
use lib.IntN.{ℤ, pos}
use borrow.Author.Tests.{ltb-true, ltb-false, lt-ltb, le-ltb}
use Rattle.input.specs.Limits.{most_rows, report_words}
use Rattle.input.specs.Refusals.{nothing, first}
use Rattle.rules.specs.Outcome.{row_report, report_of, lag, lags_of, over}
use Rattle.laws.proofs.Path.Tests.{either, neither}
use Rattle.laws.proofs.Outcome.Results.{reported_at, lag_at}
use Rattle.live_rules.specs.Layout.{state_words}
use Rattle.live_rules.specs.State.{box_of, live_in}
use Rattle.live_rules.specs.Soundness.{sound}
use Rattle.live_rules.specs.Outcomes.{refusing, doing, state_refused, Told, report_short, report_outcome, Tells}
use Rattle.live_laws.proofs.Refusing.{first_alone}
use Rattle.live_laws.proofs.Calls.{answered, is_done, is_refused}
use Rattle.live_laws.proofs.Exactly.{Later, short_three, unsound_twenty, sound_rest, three_short, twenty_unsound}

none_later : Later nothing
unfolding nothing
none_later = (λ e. omega arith, λ e. omega arith)

module _ (words report : List ℕ) (lags : List ℤ) where
  -- ── the lengths ──

  -- a slice is too short
  abbrev Short : Type 0
  Short = (length words < state_words) ⊎ (length report < report_words * most_rows) ⊎ (length lags < most_rows)

  abbrev short : Bool
  short = report_short report lags || ltb (length words) state_words

  short_slice : short ≡ true → Short
  unfolding report_short
  short_slice pass =
      ⊎_elim
      (λ outputs. ⊎_elim (λ r. inr (inl (ltb-true (length report) (report_words * most_rows) r))) (λ l. inr (inr (ltb-true (length lags) most_rows l)))
      (either (ltb (length report) (report_words * most_rows)) (ltb (length lags) most_rows) outputs))
      (λ state. inl (ltb-true (length words) state_words state))
      (either (report_short report lags) (ltb (length words) state_words) pass)

  slice_short : Short → short ≡ true
  unfolding report_short
  slice_short (inl state) = rw (lt-ltb (length words) state_words state) (or-true (report_short report lags))
  slice_short (inr (inl shorter)) = rw (lt-ltb (length report) (report_words * most_rows) shorter)
  slice_short (inr (inr shorter)) = rw (lt-ltb (length lags) most_rows shorter, or-true)

  long_slices : short ≡ false → (state_words ≤ length words) × (report_words * most_rows ≤ length report) × (most_rows ≤ length lags)
  unfolding report_short
  long_slices fail =
      let (outputs, state) = neither (report_short report lags) (ltb (length words) state_words) fail in
      let (r, l) = neither (ltb (length report) (report_words * most_rows)) (ltb (length lags) most_rows) outputs in
      (ltb-false (length words) state_words state, ltb-false (length report) (report_words * most_rows) r, ltb-false (length lags) most_rows l)

  slices_long : state_words ≤ length words → report_words * most_rows ≤ length report → most_rows ≤ length lags → short ≡ false
  unfolding report_short
  slices_long state r l =
      rw (le-ltb (length report) (report_words * most_rows) r, le-ltb (length lags) most_rows l, le-ltb (length words) state_words state)

  module _ (told : Told) (tells : Tells words report lags told) where
    -- ── the answer ──

    told_number : told.answer.number ≡ (first (state_refused (report_short report lags) words ∷ nothing ∷ [])).number
    unfolding report_outcome refusing doing
    told_number =
        ap (λ (t : Told). t.answer.number) tells
        ∙ answered (λ (t : Told). t.answer.number) (state_refused (report_short report lags) words).number _ _ refl refl
        ∙ sym (first_alone (state_refused (report_short report lags) words))

    pub report_three_exactly :
        (told.answer.number ≡ 3) ↔ ((length words < state_words) ⊎ (length report < report_words * most_rows) ⊎ (length lags < most_rows))
    report_three_exactly = (
      λ gets. short_slice (three_short (report_short report lags) words nothing told.answer.number told_number none_later gets),
      λ slices. short_three (report_short report lags) words nothing told.answer.number told_number (slice_short slices),
    )

    pub report_twenty_exactly :
        (told.answer.number ≡ 20)
        ↔ ((state_words ≤ length words) × (report_words * most_rows ≤ length report) × (most_rows ≤ length lags) × (sound (live_in words) ≡ false))
    report_twenty_exactly = (
      λ gets.
          let (long, unsound) = twenty_unsound (report_short report lags) words nothing told.answer.number told_number none_later gets in
          let (state, r, l) = long_slices long in
          (state, r, l, unsound),
      λ (state, r, l, unsound).
          unsound_twenty (report_short report lags) words nothing told.answer.number told_number (slices_long state r l) unsound,
    )

    -- it is done where all are long enough and the state is sound
    pub report_done :
        state_words ≤ length words → report_words * most_rows ≤ length report → most_rows ≤ length lags → sound (live_in words) ≡ true
        → told.answer.number ≡ 0
    unfolding nothing
    report_done state r l = sound_rest (report_short report lags) words nothing told.answer.number told_number (slices_long state r l)

    -- a refusal leaves both slices as they were
    pub report_unchanged : told.answer.number ≢ 0 → (told.report ≡ report) × (told.lags ≡ lags)
    unfolding report_outcome
    report_unchanged some =
        let is =
        tells
        ∙ is_refused (state_refused (report_short report lags) words).number _ _
        (λ none. some (told_number ∙ first_alone (state_refused (report_short report lags) words) ∙ none)) in
        (ap (λ (t : Told). t.report) is, ap (λ (t : Told). t.lags) is)

    -- ── the words ──

    module _ (done : told.answer.number ≡ 0) where
      abbrev n : ℕ
      n = (live_in words).tree.rows

      done_told :
          told
          ≡ record {
            answer = doing [];
            report = over (report_of (live_in words).tree (box_of (live_in words)) n) report;
            lags = over (lags_of (live_in words).tree (box_of (live_in words)) n) lags;
          }
      unfolding report_outcome
      done_told =
          tells
          ∙ is_done (state_refused (report_short report lags) words).number _ _
          (sym (first_alone (state_refused (report_short report lags) words)) ∙ sym told_number ∙ done)

      pub word_told :
          (r i : ℕ) → r < (live_in words).tree.rows → i < report_words
          → get_or told.report (report_words * r + i) 0 ≡ get_or (row_report (live_in words).tree (box_of (live_in words)) r) i 0
      word_told r i inside word = rw done_told (reported_at (live_in words).tree (box_of (live_in words)) report n r i inside word)

      pub lag_told :
          (r : ℕ) → r < (live_in words).tree.rows → get_or told.lags r (pos 0) ≡ lag (live_in words).tree (box_of (live_in words)) r
      lag_told r inside = rw done_told (lag_at (live_in words).tree (box_of (live_in words)) lags n r inside)
