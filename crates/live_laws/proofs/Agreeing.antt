-- A live state that agrees with the run of the events that it accepted: a fresh one does, and each call keeps it so.
-- Assumes nothing.
use Prim.Native.Nat.{ℕ, suc, ◌≤◌, ◌<◌}
use mathlib.Core.Path.{◌≡◌, refl, sym, ap, subst, ◌∙◌}
use mathlib.Core.Logic.{inl, inr}
use mathlib.Core.List.{List, [], ◌++◌}
use native.Mathlib.Decide.{ℕ_discrete}
use native.Mathlib.Omega.{arith}
use lib.ListN.{length}
use Rattle.input.specs.declared.Event.{Event}
use Rattle.input.specs.Classes.{Table, Tree, tree_of}
use Rattle.input.specs.Events.{Events, count, decode}
use Rattle.input.specs.Refusals.{meeting_refused}
use Rattle.rules.specs.Box.{Box, fresh}
use Rattle.rules.specs.Steps.{step, after}
use Rattle.rules.specs.Refused.{idle}
use Rattle.rules.specs.Refused as run
use Rattle.laws.specs.History.{Accepted}
use Rattle.laws.proofs.Tree.Trees.{or_none}
use Rattle.laws.proofs.Outcome.Shown.{Ordered}
use Rattle.live_rules.specs.Layout.{state_words}
use Rattle.live_rules.specs.State.{Live, box_of, events, live_in, fresh_live}
use Rattle.live_rules.specs.Taking.{full_refused, event_refused, box_after, took}
use Rattle.live_rules.specs.Outcomes.{doing, Left, Made, Took}
use Rattle.live_laws.specs.Holds.{Holds}
use Rattle.live_laws.specs.Unordered.{unordered}
use Rattle.live_laws.specs.Calls.{followed_by, shown_by}
use Rattle.live_laws.proofs.Taking.{took_box, took_later}
use Rattle.live_laws.proofs.Outset.{fresh_box}
use Rattle.live_laws.proofs.Orders.{step_unordered, step_order, AtMostOne, after_one}
use Rattle.live_laws.proofs.Refusing.{meeting_number}
use Rattle.live_laws.proofs.Calls.{fresh_long, fresh_in, made_holds, event_parts, event_long, taken_left, taken_holds, taken_in}
use Rattle.live_laws.proofs.Following.{followed_count, followed_even, followed_length, followed_event, followed_refused, before_last, after_last}

-- the words hold the state after these accepted events, which put these packets on the line
pub record Agrees (tree : Tree) (words : List ℕ) (kept : Events) (order : List ℕ) : Type 0 where
  pub long : state_words ≤ length words
  pub holds : Holds (live_in words)
  pub tree_is : (live_in words).tree ≡ tree
  pub even : length kept.lengths ≡ count kept
  pub events_are : events (live_in words) ≡ count kept
  pub box_is : box_of (live_in words) ≡ unordered (after tree kept (count kept))
  pub ordered : Ordered tree kept (count kept) order

-- no events
abbrev pub none_yet : Events
none_yet = record { classes = []; lengths = [] }

-- ── a fresh state ──

pub fresh_agrees :
    (table : Table) (words : List ℕ) (left : Left) → Made table words left → left.answer.number ≡ 0
    → Agrees (tree_of table) left.words none_yet []
unfolding fresh_live events after fresh unordered
fresh_agrees table words left made done =
    let holds = made_holds table words left made done in
    let is = fresh_in table words left made done in
    record {
      long = fresh_long table words left made done;
      holds = subst Holds (sym is) holds;
      tree_is = ap (λ (l : Live). l.tree) is;
      even = refl;
      events_are = ap events is;
      box_is = ap box_of is ∙ fresh_box table;
      ordered = record { accepted = record { sound = holds.treed.sound; each = λ i before. absurd (omega arith) }; order_is = refl };
    }

-- ── an event that is taken ──

-- none or one, an answer shows all that went on the line
shown_all : (order : List ℕ) → AtMostOne order → shown_by (doing order) ≡ order
unfolding doing
shown_all order (inl none) = rw none
shown_all order (inr (x, one)) = rw one

module _
    (tree : Tree) (words : List ℕ) (kept : Events) (order : List ℕ) (agrees : Agrees tree words kept order) (class size : ℕ) (left : Left)
    (takes : Took words class size left) (done : left.answer.number ≡ 0) where
  abbrev live : Live
  live = live_in words

  abbrev e : Event
  e = decode class size

  abbrev now : ℕ
  now = count kept

  abbrev more : Events
  more = followed_by kept class size

  abbrev before : Box
  before = after tree kept now

  passes : (event_refused live size e).number ≡ 0
  passes = (event_parts words class size left takes done).2

  -- the live box's step is the run's
  same_step : box_after live e ≡ step tree now e (unordered before)
  unfolding box_after
  same_step = rw (agrees.events_are, agrees.box_is, agrees.tree_is)

  box_more : box_of (took live e) ≡ unordered (after tree more (count more))
  box_more =
      took_box live agrees.holds size e passes ∙ ap unordered same_step ∙ step_unordered tree now e before
      ∙ ap unordered (sym (after_last kept class size agrees.even tree))

  -- what it puts on the line is what the order grows by
  order_more : order ++ shown_by left.answer ≡ (after tree more (count more)).order
  order_more =
      ap (λ (l : Left). order ++ shown_by l.answer) (taken_left words class size left takes done)
      ∙ ap (λ (sent : List ℕ). order ++ sent) (shown_all (box_after live e).order (after_one live e))
      ∙ rw (agrees.ordered.order_is, same_step, after_last kept class size agrees.even tree) (sym (step_order tree now e before))

  -- it is not refused in the run either, where it stands at its own place
  accepted_last : (run.event_refused tree more now).number ≡ 0
  unfolding run.event_refused event_refused idle unordered
  accepted_last =
      let meets = (or_none (meeting_refused live.tree 0 size e (idle (box_of live))) (full_refused live e) passes).0 in
      rw (followed_length kept class size agrees.even, followed_event kept class size agrees.even, before_last kept class size agrees.even tree)
      (meeting_number tree now 0 size e (idle before) ∙ rw (agrees.box_is, agrees.tree_is) at meets)

  accepted_more : Accepted tree more (count more)
  accepted_more = record { sound = agrees.ordered.accepted.sound; each = λ i inside. go i inside (ℕ_discrete i now) }
    where
      go : (i : ℕ) → i < count more → Dec (i ≡ now) → (run.event_refused tree more i).number ≡ 0
      go i inside (yes last) = rw last accepted_last
      go i inside (no other) =
          let size_is = followed_count kept class size in
          let earlier : i < now = omega arith in
          rw (followed_refused kept class size agrees.even tree i earlier) (agrees.ordered.accepted.each i earlier)

  pub taken_agrees : Agrees tree left.words (followed_by kept class size) (order ++ shown_by left.answer)
  unfolding took
  taken_agrees =
      let is = taken_in words class size left takes done in
      record {
        long = rw (event_long words class size left takes) agrees.long;
        holds = subst Holds (sym is) (taken_holds words class size left takes done);
        tree_is = ap (λ (l : Live). l.tree) is ∙ agrees.tree_is;
        even = followed_even kept class size agrees.even;
        events_are = ap events is ∙ took_later live agrees.holds size e passes ∙ ap suc agrees.events_are ∙ sym (followed_count kept class size);
        box_is = ap box_of is ∙ box_more;
        ordered = record { accepted = accepted_more; order_is = order_more };
      }
