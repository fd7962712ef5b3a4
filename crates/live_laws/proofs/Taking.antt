-- An event that is not refused keeps what a sound state has, and its box is the run's after that event.
-- Assumes nothing.
use Prim.Native.Nat.{ℕ, suc, ◌<◌}
use mathlib.Core.Path.{◌≡◌}
use mathlib.Core.Logic.{◌≢◌}
use lib.ListN.{length}
use borrow.Author.Tests.{leb-false}
use Rattle.input.specs.declared.Event.{Event}
use Rattle.input.specs.declared.Event.TheVariants.{Arrival, Finish}
use Rattle.input.specs.Refusals.{meeting_refused}
use Rattle.rules.specs.Box.{head}
use Rattle.rules.specs.Refused.{idle}
use Rattle.laws.specs.Sound.{ArrivalFits}
use Rattle.laws.proofs.Level.Heads.{has_true}
use Rattle.laws.proofs.Tree.Trees.{or_none, first_none, given_none, arrival_fits, finish_fits}
use Rattle.live_rules.specs.Limits.{most_held, most_accepted}
use Rattle.live_rules.specs.State.{Live, box_of, events}
use Rattle.live_rules.specs.Taking.{full_refused, event_refused, box_after, took}
use Rattle.live_laws.specs.Holds.{Holds}
use Rattle.live_laws.specs.Unordered.{unordered}
use Rattle.live_laws.proofs.After.{After, after_holds}
use Rattle.live_laws.proofs.Arriving.{arrival_after}
use Rattle.live_laws.proofs.Finishing.{finish_after}

-- ── not refused ──

module _ (live : Live) (holds : Holds live) (word : ℕ) where
  both_pass :
      (e : Event) → (event_refused live word e).number ≡ 0
      → ((meeting_refused live.tree 0 word e (idle (box_of live))).number ≡ 0) × ((full_refused live e).number ≡ 0)
  unfolding event_refused
  both_pass e passes = or_none (meeting_refused live.tree 0 word e (idle (box_of live))) (full_refused live e) passes

  pub arrival_passes : (class size : ℕ) → (event_refused live word (Arrival class size)).number ≡ 0 → ArrivalFits live.tree class size
  arrival_passes class size passes =
      arrival_fits live.tree holds.treed.sound 0 word class size (idle (box_of live)) (both_pass (Arrival class size) passes).0

  -- there is room for one packet more
  pub room_passes :
      (class size : ℕ) → (event_refused live word (Arrival class size)).number ≡ 0
      → (live.accepted < most_accepted) × (length live.packets < most_held)
  unfolding full_refused
  room_passes class size passes =
      let all = first_none _ (both_pass (Arrival class size) passes).1 in
      (leb-false most_accepted live.accepted (given_none _ _ _ all.0), leb-false most_held (length live.packets) (given_none _ _ _ all.1.0))

  pub finish_passes : (event_refused live word Finish).number ≡ 0 → head live.rows 0 ≢ 0
  unfolding box_of
  finish_passes passes = has_true live.rows 0 (finish_fits live.tree 0 word (box_of live) (both_pass Finish passes).0).1

-- ── taken ──

took_after : (live : Live) → Holds live → (word : ℕ) (e : Event) → (event_refused live word e).number ≡ 0 → After live e
took_after live holds word (Arrival class size) passes =
    let room = room_passes live holds word class size passes in
    arrival_after live holds class size (arrival_passes live holds word class size passes) room.0 room.1
took_after live holds word Finish passes = finish_after live holds (finish_passes live holds word passes)

-- the box of the state that an event leaves is the run's after that event, but for the order
pub took_box :
    (live : Live) → Holds live → (word : ℕ) (e : Event) → (event_refused live word e).number ≡ 0 → box_of (took live e) ≡ unordered (box_after live e)
took_box live holds word e passes = (took_after live holds word e passes).box_same

-- it is the next event's turn
pub took_later :
    (live : Live) → Holds live → (word : ℕ) (e : Event) → (event_refused live word e).number ≡ 0 → events (took live e) ≡ suc (events live)
took_later live holds word e passes = (took_after live holds word e passes).later

pub took_holds : (live : Live) → Holds live → (word : ℕ) (e : Event) → (event_refused live word e).number ≡ 0 → Holds (took live e)
took_holds live holds word e passes = after_holds live holds e (took_after live holds word e passes)
