-- What the arrays and the list hold before each event and after it, and what is made of all of them.
use Rattle.std.specs.Prelude.{ℕ, suc, ◌+◌, ◌*◌, ◌^◌, ◌≤◌, ◌<◌, ◌≡◌, Bool, List, [], length, get_or, take, Result, Ok, Err}
use Rattle.input.specs.declared.Refusal.{Refusal}
use Rattle.input.specs.Limits.{most_events}
use Rattle.input.specs.Classes.{Tree}
use Rattle.input.specs.Lent.{events_of}
use Rattle.input.specs.Refusals.{first_below}
use Rattle.rules.specs.Box.{Rows}
use Rattle.rules.specs.Refused.{event_refused}
use Rattle.arrays.specs.declared.CountArrays.{CountArrays}
use Rattle.choosing.specs.Filed.{Filing}
use Rattle.tables.specs.Judged.{Refuses}
use Rattle.checks.specs.Counted.{Known}
use Rattle.events.specs.State.{Fit, Now}
use Rattle.listing.specs.declared.Turn.{Turn}
use Rattle.pcap.specs.Lists.{Arrivals, packets, progress, listed, list_of}

-- an accepted table, as it was read
pub record Ground (tree : Tree) (identifiers : List ℕ) (senders : List Bool) : Type 0 where
  pub fit : Fit tree (events_of [] [])
  pub known : Known tree identifiers senders

-- there is room for an event at place i
pub record Roomy (i : ℕ) (links order classes lengths : List ℕ) : Type 0 where
  pub events_room : i < most_events
  pub links_room : i < length links
  pub order_room : i < length order
  pub classes_room : i < length classes
  pub lengths_room : i < length lengths

-- the first i events are not refused; so many packets have arrived, the line's is finished at that moment, the arrays are those of the box,
-- and the list has begun
pub record Reached
    (Filed : Filing) (tree : Tree) (arrivals : Arrivals) (rate i : ℕ) (turn : Turn) (a : Rows) (c : CountArrays)
    (lasts links classes lengths : List ℕ) : Type 0 where
  pub fine : (j : ℕ) → j < i → (event_refused tree (listed tree arrivals rate i) j).number ≡ 0
  pub arrived_are : turn.arrived ≡ (progress tree arrivals rate i).arrived
  pub due_is : turn.due ≡ (progress tree arrivals rate i).due
  pub due_low : turn.due ≤ 2 ^ 53 + i * 2 ^ 34
  pub now : Now Filed tree (listed tree arrivals rate i) i turn.sent a c lasts links
  pub unlinked : (j : ℕ) → i ≤ j → get_or links j 0 ≡ 0
  pub classes_are : take i classes ≡ (listed tree arrivals rate i).classes
  pub lengths_are : take i lengths ≡ (listed tree arrivals rate i).lengths

-- the event at place i: what refuses it; else that much is reached with it
abbrev pub Turned : Filing → Tree → Arrivals → ℕ → ℕ → Result Turn Refusal → Rows → CountArrays → (lasts links classes lengths : List ℕ) → Type 0
Turned Filed tree arrivals rate i (Ok turn) a c lasts links classes lengths = Reached Filed tree arrivals rate (suc i) turn a c lasts links classes lengths
Turned Filed tree arrivals rate i (Err r) a c lasts links classes lengths = Refuses (event_refused tree (listed tree arrivals rate (suc i)) i) r

-- no event is refused, and the slices begin with the whole list
pub record Made (tree : Tree) (arrivals : Arrivals) (rate : ℕ) (classes lengths : List ℕ) : Type 0 where
  pub none : (first_below (event_refused tree (list_of tree arrivals rate)) (2 * packets arrivals)).number ≡ 0
  pub classes_are : take (2 * packets arrivals) classes ≡ (list_of tree arrivals rate).classes
  pub lengths_are : take (2 * packets arrivals) lengths ≡ (list_of tree arrivals rate).lengths

-- the whole list, or its first refusal
abbrev pub Lists : Tree → Arrivals → ℕ → Result (Unit {0}) Refusal → (classes lengths : List ℕ) → Type 0
Lists tree arrivals rate (Ok x) classes lengths = Made tree arrivals rate classes lengths
Lists tree arrivals rate (Err r) classes lengths = Refuses (first_below (event_refused tree (list_of tree arrivals rate)) (2 * packets arrivals)) r
