-- The report and the lags of a kept state: what is left in each case, and what a state that was read and is sound has for them.
-- Assumes nothing.
use Prim.Native.Nat.{ℕ, ◌*◌, ◌≤◌}
use mathlib.Core.Path.{◌≡◌, sym, ap, ◌∙◌}
use mathlib.Core.Logic.{◌≢◌}
use mathlib.Core.Bool.{Bool, true, false, ◌||◌}
use mathlib.Core.List.{List}
use mathlib.Mathlib.Data.Bool.Basic.{or-eq-false-eq-eq-false-and-eq-false as or-is-false}
use native.Mathlib.Omega.{arith}
use lib.Dec.{ltb}
use lib.ListN.{length}
use lib.IntN.{ℤ}
use borrow.Author.Tests.{ltb-false, ne_eqb}
use Rattle.input.specs.declared.Refusal.{Refusal}
use Rattle.input.specs.Limits.{most_rows, report_words}
use Rattle.input.specs.Classes.{sends}
use Rattle.input.specs.Refusals.{nothing}
use Rattle.rules.specs.Outcome.{report_of, lags_of, over}
use Rattle.counts.specs.Counts.{Counts}
use Rattle.report.specs.Shown.{Shown}
use Rattle.report.specs.Lags.{Shares, Past}
use Rattle.tables.specs.Answers.{refusal_of}
use Rattle.live_rules.specs.Layout.{state_words}
use Rattle.live_rules.specs.State.{Live, box_of, live_in}
use Rattle.live_rules.specs.Soundness.{sound}
use Rattle.live_rules.specs.Outcomes.{state_refused, report_short, report_outcome, Tells}
use Rattle.live_laws.specs.Holds.{Holds}
use Rattle.live_laws.proofs.Narrowing.{narrow, fits}
use Rattle.state.specs.declared.State.{State}
use Rattle.state.specs.Opened.{Opened}
use Rattle.std.specs.Prelude.{Ok, Err}
use Rattle.live_box.specs.Calls.{done_of, told_of}
use Rattle.live_box.specs.Reports.{Tellable, Written}
use Rattle.live_box.proofs.StateRefused.{short_refused, unsound_refused, sound_passes}

-- ── what is left ──

module _ (words report : List ℕ) (lags : List ℤ) where
  -- a slice is too short
  abbrev pub short : Bool
  short = (ltb (length report) (report_words * most_rows) || ltb (length lags) most_rows) || ltb (length words) state_words

  refusal_left : (r : Refusal) → state_refused (report_short report lags) words ≡ r → r.number ≢ 0 → Tells words report lags (told_of (done_of (Err r)) report lags)
  unfolding report_outcome
  refusal_left r is some = rw (is, ne_eqb r.number 0 some)

  pub short_left : (r : Refusal) → r ≡ refusal_of 3 0 0 → short ≡ true → Tells words report lags (told_of (done_of (Err r)) report lags)
  unfolding report_short
  short_left r is yes_short =
      rw is (refusal_left (refusal_of 3 0 0) (short_refused (report_short report lags) words yes_short) (λ none. omega arith))

  module _ (room : short ≡ false) where
    pub unsound_left : (r : Refusal) → r ≡ refusal_of 20 0 0 → sound (live_in words) ≡ false → Tells words report lags (told_of (done_of (Err r)) report lags)
    unfolding report_short
    unsound_left r is unsound =
        rw is (refusal_left (refusal_of 20 0 0) (unsound_refused (report_short report lags) words room unsound) (λ none. omega arith))

    pub written_left :
        (report' : List ℕ) (lags' : List ℤ) → sound (live_in words) ≡ true → Written (live_in words) report lags report' lags'
        → Tells words report lags (told_of (done_of (Ok tt)) report' lags')
    unfolding report_outcome report_short nothing
    written_left report' lags' is_sound written =
        rw (sound_passes (report_short report lags) words room is_sound, written.report_is, written.lags_are)

    -- every slice has room
    rooms : (report_words * most_rows ≤ length report) × (most_rows ≤ length lags) × (state_words ≤ length words)
    rooms =
        let (results, kept) =
        (or-is-false (ltb (length report) (report_words * most_rows) || ltb (length lags) most_rows) (ltb (length words) state_words)).0 room in
        let (one, two) = (or-is-false (ltb (length report) (report_words * most_rows)) (ltb (length lags) most_rows)).0 results in
        (ltb-false _ _ one, ltb-false _ _ two, ltb-false _ _ kept)

    pub report_room : report_words * most_rows ≤ length report
    report_room = rooms.0

    pub lags_room : most_rows ≤ length lags
    lags_room = rooms.1

    pub state_room : state_words ≤ length words
    state_room = rooms.2

-- ── what a state that was read has for them ──

module _ (live : Live) (r : State) (opened : Opened live r) where
  pub shown : Shown (box_of live) r.rows r.counts
  unfolding box_of
  shown =
      record {
        starts = sym opened.starts;
        finishes = sym opened.finishes;
        virtuals = sym opened.virtuals;
        bytes = sym opened.bytes;
        held = sym opened.held;
      }

  pub counts_are : Counts (box_of live) r.counts
  unfolding box_of
  counts_are =
      record {
        bytes = sym opened.bytes;
        held = sym opened.held;
        since = sym opened.since;
        parent_since = sym opened.parent_since;
      }

  pub shares_are : Shares live.tree r.tree
  shares_are = record { parents = sym opened.parents; shares = sym opened.shares }

  -- by how many rows are in use
  pub written :
      (report : List ℕ) (lags : List ℤ) (report' : List ℕ) (lags' : List ℤ)
      → report' ≡ over (report_of live.tree (box_of live) r.rows_count) report
      → lags' ≡ over (lags_of live.tree (box_of live) r.rows_count) lags
      → Written live report lags report' lags'
  written report lags report' lags' one two =
      record {
        report_is = one ∙ ap (λ (n : ℕ). over (report_of live.tree (box_of live) n) report) opened.rows;
        lags_are = two ∙ ap (λ (n : ℕ). over (lags_of live.tree (box_of live) n) lags) opened.rows;
      }

  module _ (holds : Holds live) where
    past : Past r.rows_count r.tree.parents r.counts
    unfolding box_of
    past =
        rw (opened.rows, opened.parents, opened.bytes, opened.since, opened.parent_since)
        (record { own_grew = holds.marked.since_most; above_grew = holds.marked.parent_since_most })

    pub tellable : Tellable r
    unfolding sends
    tellable =
        let small = narrow live holds in
        let short = fits live holds in
        record {
          few = rw opened.rows holds.counted.few_rows;
          root = λ some. sym (opened.senders 0 some);
          parents = λ i inside. rw opened.parents (small.parents i);
          shares = λ i inside. rw opened.shares (small.shares i);
          bytes = λ i inside. rw opened.bytes (short.bytes i);
          past = past;
        }
