-- A list cut short: where an input is not refused, neither is that with its first events alone, and these lead to the same boxes.
-- Assumes nothing.
use Prim.Native.Nat.{ℕ, zero, suc, ◌*◌, ◌≤◌, ◌<◌}
use mathlib.Core.Path.{◌≡◌, refl, ◌∙◌, ap}
use mathlib.Core.Bool.{Bool, false, not, ◌||◌}
use mathlib.Core.List.{List, [], ◌∷◌}
use mathlib.Mathlib.Data.Bool.Basic.{or-eq-false-eq-eq-false-and-eq-false as or-is-false}
use native.Mathlib.Omega.{arith}
use lib.Dec.{ltb, eqb}
use lib.ListN.{length}
use lib.Seq.{length-take-le, get_or-take}
use borrow.Author.Tests.{ltb-false, le-ltb, eqb-true, eq-eqb, not-false}
use Rattle.input.specs.declared.Refusal.{Refusal}
use Rattle.input.specs.Limits.{most_events, report_words}
use Rattle.input.specs.Classes.{Table, Tree, tree_of}
use Rattle.input.specs.Events.{Events, count, length_word, event}
use Rattle.rules.specs.Steps.{after}
use Rattle.input.specs.Refusals.{nothing, given, or_else, first, first_below, Room, events_refused, room_refused}
use Rattle.rules.specs.Refused.{event_refused, refused}
use Rattle.laws.specs.Shorter.{first_events}
use Rattle.laws.proofs.Tree.Trees.{None, first_none, below_none, given_none}

-- ── no refusal ──

or_passes : (x y : Refusal) → x.number ≡ 0 → y.number ≡ 0 → (or_else x y).number ≡ 0
unfolding or_else
or_passes x y one other = rw (eq-eqb x.number 0 one) other

pub first_passes : (xs : List Refusal) → None xs → (first xs).number ≡ 0
unfolding first nothing
first_passes [] none = refl
first_passes (x ∷ xs) (here, none) = or_passes x (first xs) here (first_passes xs none)

pub below_passes : (at : ℕ → Refusal) (n : ℕ) → ((i : ℕ) → i < n → (at i).number ≡ 0) → (first_below at n).number ≡ 0
unfolding first_below nothing
below_passes at zero each = refl
below_passes at (suc n) each =
    or_passes (first_below at n) (at n) (below_passes at n (λ i below. each i (omega arith))) (each n (omega arith))

pub given_passes : (test : Bool) (number place : ℕ) → test ≡ false → (given test number place).number ≡ 0
unfolding given nothing
given_passes test number place fails = rw fails

-- ── the same events and the same boxes ──

module _ (events : Events) (n : ℕ) where
  pub first_count : n ≤ count events → count (first_events n events) ≡ n
  unfolding first_events
  first_count earlier = length-take-le n events.classes earlier

  first_length : (i : ℕ) → i < n → length_word (first_events n events) i ≡ length_word events i
  unfolding first_events
  first_length i before = get_or-take n events.lengths i 0 before

  first_event : (i : ℕ) → i < n → event (first_events n events) i ≡ event events i
  unfolding event first_events
  first_event i before = rw (get_or-take n events.classes i 0 before, get_or-take n events.lengths i 0 before)

  module _ (tree : Tree) where
    next_after :
        (i : ℕ) → i < n → after tree (first_events n events) i ≡ after tree events i
        → after tree (first_events n events) (suc i) ≡ after tree events (suc i)
    unfolding after
    next_after i before same = rw (first_event i before, same)

    pub first_after : (i : ℕ) → i ≤ n → after tree (first_events n events) i ≡ after tree events i
    unfolding after
    first_after zero earlier = refl
    first_after (suc i) earlier = next_after i earlier (first_after i (omega arith))

    pub first_refused : (i : ℕ) → i < n → event_refused tree (first_events n events) i ≡ event_refused tree events i
    unfolding event_refused
    first_refused i before = rw (first_length i before, first_event i before, first_after i (omega arith))

    -- the box after the last of them
    pub first_last : n ≤ count events → after tree (first_events n events) (count (first_events n events)) ≡ after tree events n
    first_last earlier = ap (after tree (first_events n events)) (first_count earlier) ∙ first_after n (omega arith)

-- ── not refused ──

room_passes : (room : Room) (rows events fewer : ℕ) → fewer ≤ events → (room_refused rows events room).number ≡ 0 → (room_refused rows fewer room).number ≡ 0
unfolding room_refused
room_passes room rows events fewer less ok =
    let short_order = ltb room.order events in
    let short_working = ltb room.working events in
    let short_report = ltb room.report (report_words * rows) in
    let last = (or-is-false (short_order || short_working || short_report) (ltb room.lags rows)).0 (given_none _ _ _ ok) in
    let third = (or-is-false (short_order || short_working) short_report).0 last.0 in
    let second = (or-is-false short_order short_working).0 third.0 in
    let order_room = ltb-false room.order events second.0 in
    let working_room = ltb-false room.working events second.1 in
    given_passes _ 3 0
    (rw (le-ltb room.order fewer (omega arith), le-ltb room.working fewer (omega arith), third.1, last.1))

module _ (table : Table) (events : Events) (n : ℕ) (earlier : n ≤ count events) where
  lengths_pass : (events_refused events).number ≡ 0 → (events_refused (first_events n events)).number ≡ 0
  unfolding events_refused first_events
  lengths_pass ok =
      let tests = (or-is-false (not (eqb (length events.lengths) (count events))) (ltb most_events (count events))).0 (given_none _ _ _ ok) in
      let even = eqb-true (length events.lengths) (count events) (not-false _ tests.0) in
      let few = ltb-false most_events (count events) tests.1 in
      given_passes _ 2 0
      (rw (
        length-take-le n events.lengths (omega arith),
        length-take-le n events.classes earlier,
        eq-eqb n n refl,
        le-ltb most_events n (omega arith),
      ))

  pub shorter_passes : (room : Room) → (refused table events room).number ≡ 0 → (refused table (first_events n events) room).number ≡ 0
  unfolding refused
  shorter_passes room ok =
      let all = first_none _ ok in
      let size = first_count events n earlier in
      let each = below_none (event_refused (tree_of table) events) (count events) all.1.1.1.1.0 in
      let events_pass =
      below_passes (event_refused (tree_of table) (first_events n events)) (count (first_events n events))
      (λ i below. rw (first_refused events n (tree_of table) i (omega arith)) (each i (omega arith))) in
      let room_fits = room_passes room _ (count events) (count (first_events n events)) (omega arith) all.1.1.0 in
      first_passes _ (all.0, (lengths_pass all.1.0, (room_fits, (all.1.1.1.0, (events_pass, tt)))))
