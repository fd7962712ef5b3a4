-- One call of a live box: what it leaves of the words, and what its answer has.
-- Assumes nothing.
use Prim.Native.Nat.{ℕ, ◌≤◌}
use mathlib.Core.Path.{◌≡◌, refl, sym, ap, ◌∙◌}
use mathlib.Core.Logic.{◌≢◌, ◌⊎◌, inl, inr}
use mathlib.Core.Bool.{Bool, true, false, cond}
use mathlib.Core.List.{List, [], ◌∷◌}
use native.Mathlib.Decide.{ℕ_discrete}
use lib.Dec.{eqb}
use lib.ListN.{length, get_or}
use borrow.Author.Tests.{ltb-false, eqb-true, eq-eqb, ne_eqb, not-false}
use Rattle.input.specs.declared.Event.{Event}
use Rattle.input.specs.declared.Refusal.{Refusal}
use Rattle.input.specs.Classes.{Table}
use Rattle.input.specs.Events.{decode}
use Rattle.input.specs.Refusals.{nothing, first, rows_refused, table_refused}
use Rattle.laws.proofs.Tree.Trees.{first_none, given_none}
use Rattle.live_rules.specs.declared.LiveAnswer.{LiveAnswer}
use Rattle.live_rules.specs.Layout.{state_words}
use Rattle.live_rules.specs.State.{Live, tree_in, live_with, live_in, fresh_live, stored}
use Rattle.live_rules.specs.Soundness.{sound}
use Rattle.live_rules.specs.Taking.{event_refused, box_after, took}
use Rattle.live_rules.specs.Outcomes.{refusing, doing, state_refused, fresh_refused, Left, fresh_outcome, Made, event_outcome, Took}
use Rattle.live_laws.specs.Holds.{Holds}
use Rattle.live_laws.proofs.Shape.{shaped_in}
use Rattle.live_laws.proofs.Stored.{stored_in, stored_length}
use Rattle.live_laws.proofs.Telling.{sound_counted, sound_holds, holds_sound}
use Rattle.live_laws.proofs.Taking.{took_holds}
use Rattle.live_laws.proofs.Outset.{fresh_holds}
use Rattle.live_laws.proofs.Orders.{AtMostOne, after_one}
use Rattle.live_laws.proofs.Refusing.{call_has, event_has}

-- ── a sound state, and an answer ──

-- what a sound state has, read from enough words
pub holds_in : (words : List ℕ) → state_words ≤ length words → sound (live_in words) ≡ true → Holds (live_in words)
unfolding live_in live_with tree_in
holds_in words inside well =
    let counted = sound_counted (live_in words) well in
    sound_holds (live_in words) (shaped_in words inside counted.some_rows counted.few_rows) well

-- a call that is done where nothing refuses answers the refusal's number
pub answered :
    {A : Type 0} (of : A → ℕ) (number : ℕ) (done refused : A) → of done ≡ 0 → of refused ≡ number → of (cond (eqb number 0) done refused) ≡ number
answered of number done refused none some = go (eqb number 0) refl
  where
    go : (b : Bool) → eqb number 0 ≡ b → of (cond b done refused) ≡ number
    go true is = none ∙ sym (eqb-true number 0 is)
    go false is = some

pub is_done : {A : Type 0} (number : ℕ) (done refused : A) → number ≡ 0 → cond (eqb number 0) done refused ≡ done
is_done number done refused none = rw (eq-eqb number 0 none)

pub is_refused : {A : Type 0} (number : ℕ) (done refused : A) → number ≢ 0 → cond (eqb number 0) done refused ≡ refused
is_refused number done refused some = rw (ne_eqb number 0 some)

-- ── a fresh state ──

module _ (table : Table) (words : List ℕ) (left : Left) (made : Made table words left) where
  pub fresh_number : left.answer.number ≡ (fresh_refused table words).number
  unfolding fresh_outcome refusing doing
  fresh_number =
      ap (λ (l : Left). l.answer.number) made
      ∙ answered (λ (l : Left). l.answer.number) (fresh_refused table words).number _ _ refl refl

  -- a refusal leaves the words as they were
  pub fresh_unchanged : left.answer.number ≢ 0 → left.words ≡ words
  unfolding fresh_outcome
  fresh_unchanged some =
      ap (λ (l : Left). l.words) (made ∙ is_refused (fresh_refused table words).number _ _ (λ none. some (fresh_number ∙ none)))

  module _ (done : left.answer.number ≡ 0) where
    pub fresh_parts : ((rows_refused table).number ≡ 0) × (state_words ≤ length words) × ((table_refused table).number ≡ 0)
    unfolding fresh_refused
    fresh_parts =
        let all = first_none _ (sym fresh_number ∙ done) in
        (all.0, ltb-false (length words) state_words (given_none _ _ _ all.1.0), all.1.1.0)

    fresh_words : left.words ≡ stored (fresh_live table) words
    unfolding fresh_outcome
    fresh_words = ap (λ (l : Left). l.words) (made ∙ is_done (fresh_refused table words).number _ _ (sym fresh_number ∙ done))

    pub made_holds : Holds (fresh_live table)
    made_holds = fresh_holds table fresh_parts.0 fresh_parts.2

    pub fresh_long : state_words ≤ length left.words
    fresh_long = rw (fresh_words, stored_length (fresh_live table) words) fresh_parts.1

    -- what is made is read
    pub fresh_in : live_in left.words ≡ fresh_live table
    fresh_in = ap live_in fresh_words ∙ stored_in (fresh_live table) words made_holds.shaped made_holds.counted fresh_parts.1

    pub fresh_is_sound : sound (live_in left.words) ≡ true
    fresh_is_sound = ap sound fresh_in ∙ holds_sound (fresh_live table) made_holds

-- ── an event ──

-- a refusal without places
abbrev Placeless : Refusal → Type 0
Placeless refusal = (refusal.place ≡ 0) × (refusal.second ≡ 0)

module _ (words : List ℕ) (class size : ℕ) (left : Left) (takes : Took words class size left) where
  abbrev live : Live
  live = live_in words

  abbrev event : Event
  event = decode class size

  abbrev refusal : Refusal
  refusal = first (state_refused false words ∷ event_refused live size event ∷ [])

  pub number_is : left.answer.number ≡ refusal.number
  unfolding event_outcome refusing doing
  number_is =
      ap (λ (l : Left). l.answer.number) takes
      ∙ answered (λ (l : Left). l.answer.number) refusal.number _ _ refl refl

  pub event_refused_left : left.answer.number ≢ 0 → left ≡ record { answer = refusing refusal; words = words }
  unfolding event_outcome
  event_refused_left some = takes ∙ is_refused refusal.number _ _ (λ none. some (number_is ∙ none))

  -- it changes no word, and puts nothing on the line
  pub refused_unchanged : left.answer.number ≢ 0 → (left.words ≡ words) × (left.answer.count ≡ 0) × (left.answer.packet ≡ 0)
  unfolding refusing
  refused_unchanged some =
      let is = event_refused_left some in
      (ap (λ (l : Left). l.words) is, ap (λ (l : Left). l.answer.count) is, ap (λ (l : Left). l.answer.packet) is)

  module _ (done : left.answer.number ≡ 0) where
    pub event_parts : (state_words ≤ length words) × (sound live ≡ true) × ((event_refused live size event).number ≡ 0)
    unfolding state_refused
    event_parts =
        let all = first_none _ (sym number_is ∙ done) in
        let state = first_none _ all.0 in
        (ltb-false (length words) state_words (given_none _ _ _ state.0), not-false (sound live) (given_none _ _ _ state.1.0), all.1.0)

    pub taken_left : left ≡ record { answer = doing (box_after live event).order; words = stored (took live event) words }
    unfolding event_outcome
    taken_left = takes ∙ is_done refusal.number _ _ (sym number_is ∙ done)

    pub taken_holds : Holds (took live event)
    taken_holds = took_holds live (holds_in words event_parts.0 event_parts.1) size event event_parts.2

    -- what is stored is read
    pub taken_in : live_in left.words ≡ took live event
    taken_in =
        ap (λ (l : Left). live_in l.words) taken_left
        ∙ stored_in (took live event) words taken_holds.shaped taken_holds.counted event_parts.0

  -- ── the answer ──

  refusal_places : Placeless refusal
  unfolding nothing
  refusal_places =
      call_has Placeless (refl, refl) words (refl, refl) (refl, refl) (event_refused live size event)
      (event_has Placeless (refl, refl) (λ n low high. (refl, refl)) (refl, refl) (refl, refl) live size event)

  -- an event has no places
  pub no_place : (left.answer.place ≡ 0) × (left.answer.second ≡ 0)
  unfolding refusing doing
  no_place = go (ℕ_discrete left.answer.number 0)
    where
      go : Dec (left.answer.number ≡ 0) → (left.answer.place ≡ 0) × (left.answer.second ≡ 0)
      go (yes done) =
          (ap (λ (l : Left). l.answer.place) (taken_left done), ap (λ (l : Left). l.answer.second) (taken_left done))
      go (no some) =
          let is = event_refused_left some in
          (ap (λ (l : Left). l.answer.place) is ∙ refusal_places.0, ap (λ (l : Left). l.answer.second) is ∙ refusal_places.1)

  -- one packet goes on the line, or none, which has no name
  pub one_packet : (left.answer.count ≡ 1) ⊎ ((left.answer.count ≡ 0) × (left.answer.packet ≡ 0))
  unfolding doing
  one_packet = go (ℕ_discrete left.answer.number 0)
    where
      One : LiveAnswer → Type 0
      One answer = (answer.count ≡ 1) ⊎ ((answer.count ≡ 0) × (answer.packet ≡ 0))

      sends : (order : List ℕ) → AtMostOne order → One (doing order)
      sends order (inl none) = inr (ap length none, ap (λ (o : List ℕ). get_or o 0 0) none)
      sends order (inr (x, one)) = inl (ap length one)

      go : Dec (left.answer.number ≡ 0) → One left.answer
      go (yes done) = rw (taken_left done) (sends (box_after live event).order (after_one live event))
      go (no some) = let is = refused_unchanged some in inr (is.1, is.2)

  -- no call changes how many words there are
  pub event_long : length left.words ≡ length words
  event_long = go (ℕ_discrete left.answer.number 0)
    where
      go : Dec (left.answer.number ≡ 0) → length left.words ≡ length words
      go (yes done) = ap (λ (l : Left). length l.words) (taken_left done) ∙ stored_length (took live event) words
      go (no some) = ap length (refused_unchanged some).0

  -- taken or refused, a sound state stays sound
  pub call_keeps_sound : sound live ≡ true → sound (live_in left.words) ≡ true
  call_keeps_sound well = go (ℕ_discrete left.answer.number 0)
    where
      go : Dec (left.answer.number ≡ 0) → sound (live_in left.words) ≡ true
      go (yes done) = ap sound (taken_in done) ∙ holds_sound (took live event) (taken_holds done)
      go (no some) = ap (λ (w : List ℕ). sound (live_in w)) (refused_unchanged some).0 ∙ well
