-- The whole outcome of each call of a live box: the answer, and every word of every lent slice afterwards.
use Rattle.std.specs.Prelude.{ℕ, ◌*◌, ◌≡◌, Bool, false, cond, not, ◌||◌, List, [], ◌∷◌, ltb, eqb, length, get_or, ℤ}
use Rattle.input.specs.declared.Event.{Event}
use Rattle.input.specs.declared.Refusal.{Refusal}
use Rattle.input.specs.Limits.{most_rows, report_words}
use Rattle.input.specs.Classes.{Table}
use Rattle.input.specs.Events.{decode}
use Rattle.input.specs.Refusals.{given, first, rows_refused, table_refused}
use Rattle.rules.specs.Box.{Box}
use Rattle.rules.specs.Outcome.{report_of, lags_of, over}
use Rattle.live_rules.specs.declared.LiveAnswer.{LiveAnswer}
use Rattle.live_rules.specs.Layout.{state_words}
use Rattle.live_rules.specs.State.{Live, box_of, fresh_live, live_in, stored}
use Rattle.live_rules.specs.Soundness.{sound}
use Rattle.live_rules.specs.Taking.{event_refused, box_after, took}

-- ── answers ──

-- a refusal, and nothing went on the line
unfoldable pub refusing : Refusal → LiveAnswer
refusing refusal =
    record { number = refusal.number; place = refusal.place; second = refusal.second; count = 0; packet = 0 }

-- done; these packets went on the line, none or one
unfoldable pub doing : List ℕ → LiveAnswer
doing order = record { number = 0; place = 0; second = 0; count = length order; packet = get_or order 0 0 }

-- what every call of a kept state refuses before all else: 3, a slice is too short; 20, the state is not sound
unfoldable pub state_refused : Bool → List ℕ → Refusal
state_refused short words = first (given (short || ltb (length words) state_words) 3 0 ∷ given (not (sound (live_in words))) 20 0 ∷ [])

-- ── a fresh state ──

-- 1, then 3, then the table's own
unfoldable pub fresh_refused : Table → List ℕ → Refusal
fresh_refused table words = first (rows_refused table ∷ given (ltb (length words) state_words) 3 0 ∷ table_refused table ∷ [])

-- what a call leaves: its answer, and the state's words
pub record Left : Type 0 where
  pub answer : LiveAnswer
  pub words : List ℕ

unfoldable pub fresh_outcome : Table → List ℕ → Left
fresh_outcome table words =
    let refusal = fresh_refused table words in
    cond (eqb refusal.number 0) (record { answer = doing []; words = stored (fresh_live table) words })
    (record { answer = refusing refusal; words = words })

abbrev pub Made : Table → List ℕ → Left → Type 0
Made table words left = left ≡ fresh_outcome table words

-- ── one event ──

unfoldable pub event_outcome : List ℕ → ℕ → ℕ → Left
event_outcome words class length =
    let live = live_in words in
    let event = decode class length in
    let refusal = first (state_refused false words ∷ event_refused live length event ∷ []) in
    cond (eqb refusal.number 0) (record { answer = doing (box_after live event).order; words = stored (took live event) words })
    (record { answer = refusing refusal; words = words })

abbrev pub Took : List ℕ → ℕ → ℕ → Left → Type 0
Took words class length left = left ≡ event_outcome words class length

-- ── report and lags ──

-- what the call leaves: its answer and the two slices; the state is lent to be read alone
pub record Told : Type 0 where
  pub answer : LiveAnswer
  pub report : List ℕ
  pub lags : List ℤ

-- 3 where a slice has no room for all rows that there can be
unfoldable pub report_short : List ℕ → List ℤ → Bool
report_short report lags = ltb (length report) (report_words * most_rows) || ltb (length lags) most_rows

unfoldable pub report_outcome : List ℕ → List ℕ → List ℤ → Told
report_outcome words report lags =
    let live = live_in words in
    let refusal = state_refused (report_short report lags) words in
    cond (eqb refusal.number 0)
    (record {
      answer = doing [];
      report = over (report_of live.tree (box_of live) live.tree.rows) report;
      lags = over (lags_of live.tree (box_of live) live.tree.rows) lags;
    })
    (record { answer = refusing refusal; report = report; lags = lags })

abbrev pub Tells : List ℕ → List ℕ → List ℤ → Told → Type 0
Tells words report lags told = told ≡ report_outcome words report lags
