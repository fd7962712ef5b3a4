-- One event: what is left in each case, and what a sound state that was read has for its checks.
-- Assumes nothing.
use Prim.Native.Nat.{ℕ, ◌≤◌, ◌<◌}
use mathlib.Core.Path.{◌≡◌, refl, sym, ap, ◌∙◌}
use mathlib.Core.Logic.{◌≢◌}
use mathlib.Core.Bool.{Bool, true, false, cond, not, false≢true}
use mathlib.Core.List.{List}
use native.Mathlib.Omega.{arith}
use lib.Dec.{eqb}
use lib.ListN.{length, get_or, take, length-take}
use borrow.Author.Tests.{eq-eqb, ne_eqb, lt-ltb, le-ltb}
use Rattle.input.specs.declared.Event.{Event}
use Rattle.input.specs.declared.Event.TheVariants.{Arrival, Finish}
use Rattle.input.specs.declared.Refusal.{Refusal}
use Rattle.input.specs.Limits.{most_rows}
use Rattle.input.specs.Classes.{place_of, row_of}
use Rattle.input.specs.Events.{decode}
use Rattle.input.specs.Refusals.{nothing, or_else, first, meeting_refused}
use Rattle.rules.specs.Box.{head, has_head}
use Rattle.rules.specs.Refused.{idle}
use Rattle.tables.specs.Answers.{refusal_of}
use Rattle.tables.proofs.Firsts.{or_else_first, or_else_second}
use Rattle.tables.specs.Stated.{Finds}
use Rattle.tables.specs.Judged.{Refuses}
use Rattle.tables.proofs.Judging.{at_first, at_second}
use Rattle.checks.specs.Counted.{Places, Found}
use Rattle.live_rules.specs.Layout.{state_words}
use Rattle.live_rules.specs.State.{Live, box_of, live_in}
use Rattle.live_rules.specs.Soundness.{sound}
use Rattle.live_rules.specs.Taking.{full_refused, event_refused}
use Rattle.live_rules.specs.Outcomes.{refusing, state_refused, event_outcome, Took}
use Rattle.live_laws.specs.Holds.{Holds}
use Rattle.live_laws.proofs.Taking.{arrival_passes, room_passes, finish_passes}
use Rattle.state.specs.declared.State.{State}
use Rattle.state.specs.Opened.{Opened}
use Rattle.taking.specs.Taken.{ArrivalTakes, FinishTakes, left_of, taken}
use Rattle.std.specs.Prelude.{Option, None, Some, Result, Ok, Err, IfSome}
use Rattle.std.specs.Result.{IsErrAnd}
use Rattle.live_box.specs.Calls.{answer_of}
use Rattle.live_box.specs.Met.{Read, met}
use Rattle.live_box.proofs.StateRefused.{short_refused, unsound_refused, sound_passes}
use Rattle.live_laws.proofs.Calls.{holds_in}

-- ── the refusals of the state ──

-- an arrival's packet has the length word's bytes
unfoldable size_of : Event → ℕ
size_of (Arrival class size) = size
size_of Finish = 0

unfoldable arrives : Event → Bool
arrives (Arrival class size) = true
arrives Finish = false

decoded_size : (class length_word k size : ℕ) → decode class length_word ≡ Arrival k size → size ≡ length_word
unfolding decode size_of arrives
decoded_size class length_word k size is = go (eqb class 0) is
  where
    go : (b : Bool) → cond b Finish (Arrival class length_word) ≡ Arrival k size → size ≡ length_word
    go true is = absurd (false≢true (ap arrives is))
    go false is = sym (ap size_of is)

module _ (words : List ℕ) (class length_word : ℕ) where
  refusal_left : (r : Refusal) → state_refused false words ≡ r → r.number ≢ 0 → Took words class length_word (left_of (answer_of (Err r)) words)
  unfolding event_outcome first
  refusal_left r is some = rw (is, or_else_first r _ some, ne_eqb r.number 0 some)

  pub short_left : (r : Refusal) → r ≡ refusal_of 3 0 0 → length words < state_words → Took words class length_word (left_of (answer_of (Err r)) words)
  short_left r is short =
      rw is
      (refusal_left (refusal_of 3 0 0) (short_refused false words (lt-ltb (length words) state_words short)) (λ none. omega arith))

  module _ (room : state_words ≤ length words) where
    pub unsound_left :
        (r : Refusal) → r ≡ refusal_of 20 0 0 → sound (live_in words) ≡ false → Took words class length_word (left_of (answer_of (Err r)) words)
    unsound_left r is unsound =
        rw is
        (refusal_left (refusal_of 20 0 0) (unsound_refused false words (le-ltb (length words) state_words room) unsound) (λ none. omega arith))

    -- a refusal behind which there is nothing
    alone : (r : Refusal) → cond (eqb (or_else r nothing).number 0) (taken words (decode class length_word)) (left_of (refusing (or_else r nothing)) words)
        ≡ cond (eqb r.number 0) (taken words (decode class length_word)) (left_of (refusing r) words)
    unfolding or_else nothing
    alone r = go (eqb r.number 0) refl
      where
        go : (b : Bool) → eqb r.number 0 ≡ b
            → cond (eqb (cond b nothing r).number 0) (taken words (decode class length_word)) (left_of (refusing (cond b nothing r)) words)
            ≡ cond b (taken words (decode class length_word)) (left_of (refusing r) words)
        go true none = refl
        go false some = rw some refl

    -- a sound state meets the event
    pub met_left : sound (live_in words) ≡ true → event_outcome words class length_word ≡ met words length_word (decode class length_word)
    unfolding event_outcome first met taken nothing
    met_left is_sound =
        rw (
          sound_passes false words (le-ltb (length words) state_words room) is_sound,
          or_else_second nothing (or_else (event_refused (live_in words) length_word (decode class length_word)) nothing) refl,
        )
        (alone (event_refused (live_in words) length_word (decode class length_word)))

    -- by the kind of event
    pub arrival_left :
        sound (live_in words) ≡ true → (e : Event) (k size : ℕ) → e ≡ decode class length_word → e ≡ Arrival k size
        → met words size (Arrival k size) ≡ event_outcome words class length_word
    arrival_left is_sound e k size decoded is =
        let same : decode class length_word ≡ Arrival k size = sym decoded ∙ is in
        ap (λ (n : ℕ). met words n (Arrival k size)) (decoded_size class length_word k size same) ∙ ap (met words length_word) (sym same)
        ∙ sym (met_left is_sound)

    pub finish_left :
        sound (live_in words) ≡ true → (e : Event) → e ≡ decode class length_word → e ≡ Finish
        → met words length_word Finish ≡ event_outcome words class length_word
    finish_left is_sound e decoded is = ap (met words length_word) (sym is ∙ decoded) ∙ sym (met_left is_sound)

-- ── the refusals of the event ──

module _ (words : List ℕ) (word : ℕ) (event : Event) where
  -- a refusal that is handed on
  pub refused_met :
      (e : Refusal) (r : Result (Option ℕ) Refusal) → IsErrAnd r (λ x. x ≡ e) → Refuses (event_refused (live_in words) word event) e
      → left_of (answer_of r) words ≡ met words word event
  unfolding met
  refused_met e (Ok sent) same judged = absurd same
  refused_met e (Err x) same judged = rw (same, judged.1, ne_eqb (event_refused (live_in words) word event).number 0 judged.0) refl

  pub taken_met : (event_refused (live_in words) word event).number ≡ 0 → met words word event ≡ taken words event
  unfolding met
  taken_met none = rw (eq-eqb (event_refused (live_in words) word event).number 0 none) refl

-- of an arrival what the check refuses, then 21 and 22
module _ (live : Live) (class size : ℕ) where
  abbrev checked : Refusal
  checked = meeting_refused live.tree 0 size (Arrival class size) (idle (box_of live))

  pub arrival_first : (r : Refusal) → Refuses checked r → Refuses (event_refused live size (Arrival class size)) r
  unfolding event_refused
  arrival_first r judged = at_first checked _ r judged

  module _ (fine : checked.number ≡ 0) where
    pub arrival_full : (r : Refusal) → Refuses (full_refused live (Arrival class size)) r → Refuses (event_refused live size (Arrival class size)) r
    unfolding event_refused
    arrival_full r judged = at_second checked _ (tt {0}) (Err r) fine judged

    pub arrival_passed :
        (full_refused live (Arrival class size)).number ≡ 0 → (event_refused live size (Arrival class size)).number ≡ 0
    unfolding event_refused
    arrival_passed none = ap (λ (r : Refusal). r.number) (or_else_second checked _ fine) ∙ none

-- of a finish what the check refuses
module _ (live : Live) (word : ℕ) where
  abbrev finish_checked : Refusal
  finish_checked = meeting_refused live.tree 0 word Finish (idle (box_of live))

  pub finish_first : (r : Refusal) → Refuses finish_checked r → Refuses (event_refused live word Finish) r
  unfolding event_refused
  finish_first r judged = at_first finish_checked _ r judged

  pub finish_passed : finish_checked.number ≡ 0 → (event_refused live word Finish).number ≡ 0
  unfolding event_refused full_refused nothing
  finish_passed none = ap (λ (r : Refusal). r.number) (or_else_second finish_checked _ none)

-- ── what the state has for the checks ──

module _ (words : List ℕ) (state : State) (read : Read words state) where
  abbrev live : Live
  live = live_in words

  abbrev opened : Opened live state
  opened = read.opened

  holds : Holds live
  holds = holds_in words read.long read.is_sound

  pub few_rows : state.rows_count ≤ most_rows
  few_rows = let few = holds.counted.few_rows in let rows = opened.rows in omega arith

  pub as_long : state.rows_count ≡ length (take state.rows_count state.identifiers)
  as_long = opened.rows ∙ sym holds.shaped.identifiers ∙ ap length (sym opened.identifiers)

  pub enough : state.rows_count ≤ length state.identifiers
  enough = let long = as_long in let short = length-take state.rows_count state.identifiers in omega arith

  -- an arrival
  module _ (class size : ℕ) where
    places : (row : Option ℕ) → Finds (take state.rows_count state.identifiers) class row → Places live.tree class row
    unfolding row_of
    places (Some r) finds =
        (finds.0 ∙ ap (place_of class) opened.identifiers, let long = as_long in let rows = opened.rows in omega (arith, finds.1))
    places None finds = ap (place_of class) (sym opened.identifiers) ∙ finds ∙ sym as_long ∙ opened.rows

    pub row_inside : (row : Option ℕ) → Finds (take state.rows_count state.identifiers) class row → IfSome row (λ r. r < most_rows)
    row_inside (Some r) finds = let long = as_long in let few = few_rows in omega (arith, finds.1)
    row_inside None finds = tt

    pub class_found : (row : Option ℕ) → Finds (take state.rows_count state.identifiers) class row → Found live.tree state.senders class row
    class_found row finds =
        record { row_is = places row finds; sending = λ r inside. sym (opened.senders r (rw opened.rows inside)) }

    pub arrival_takes :
        (k : ℕ) → k ≡ row_of live.tree class → (event_refused live size (Arrival class size)).number ≡ 0 → ArrivalTakes live state k size
    arrival_takes k row_is passes =
        let fits = arrival_passes live holds size class size passes in
        let room = room_passes live holds size class size passes in
        record {
          holds = holds;
          opened = opened;
          sender = rw row_is fits.sender;
          some_bytes = fits.some_bytes;
          few_bytes = fits.few_bytes;
          few_accepted = room.0;
          few_held = room.1;
        }

  -- the line's finish
  pub line_idle : eqb (get_or state.rows.heads 0 0) 0 ≡ idle (box_of live)
  unfolding idle box_of has_head
  line_idle = rw opened.heads (twice (eqb (head live.rows 0) 0))
    where
      twice : (b : Bool) → b ≡ not (not b)
      twice true = refl
      twice false = refl

  pub finish_takes : (word : ℕ) → (event_refused live word Finish).number ≡ 0 → FinishTakes live state
  finish_takes word passes = record { holds = holds; opened = opened; busy = finish_passes live holds word passes }
