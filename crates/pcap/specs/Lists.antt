-- The list of events that arrivals at given moments make with a line of a given rate: which event comes next depends on the box, so list
-- and box are built together, event by event.
use Rattle.std.specs.Prelude.{ℕ, zero, suc, ◌+◌, ◌*◌, ◌^◌, ◌<◌, Bool, cond, not, ◌&&◌, ◌||◌, List, [], ◌∷◌, ◌++◌, leb, eqb, length, get_or}
use Rattle.input.specs.Classes.{Tree}
use Rattle.input.specs.Shares.{rounded_up}
use Rattle.input.specs.Events.{Events, decode}
use Rattle.input.specs.Lent.{events_of}
use Rattle.rules.specs.Box.{Box, fresh, head_length}
use Rattle.rules.specs.Steps.{step}
use Rattle.rules.specs.Refused.{idle}

-- packets as they arrive: for each the microsecond at which it does, its class's identifier and its length
pub record Arrivals : Type 0 where
  pub stamps : List ℕ
  pub classes : List ℕ
  pub lengths : List ℕ

abbrev pub arrivals_with : List ℕ → List ℕ → List ℕ → Arrivals
arrivals_with stamps classes lengths = record { stamps = stamps; classes = classes; lengths = lengths }

-- how many there are
abbrev pub packets : Arrivals → ℕ
packets arrivals = length arrivals.stamps

-- what the one that arrives as the k-th has
abbrev pub stamp_of : Arrivals → ℕ → ℕ
stamp_of arrivals k = get_or arrivals.stamps k 0

abbrev pub class_of : Arrivals → ℕ → ℕ
class_of arrivals k = get_or arrivals.classes k 0

abbrev pub length_of : Arrivals → ℕ → ℕ
length_of arrivals k = get_or arrivals.lengths k 0

-- no stamp is as large that has seconds and a fraction of 32 bits
abbrev pub most_stamp : ℕ
most_stamp = 2 ^ 53

abbrev pub Stamped : List ℕ → Type 0
Stamped stamps = (k : ℕ) → get_or stamps k 0 < most_stamp

-- microseconds that a line of this rate, in bytes a second, takes to send a packet, rounded up
unfoldable pub sending : ℕ → ℕ → ℕ
sending rate length = rounded_up (length * 1000000) rate

-- so far: how many packets have arrived, the moment at which the packet on the line is finished, and the box
pub record Progress : Type 0 where
  pub arrived : ℕ
  pub due : ℕ
  pub box : Box

-- the next event is a finish: a packet is on the line, and it is finished before the next one arrives or just then, or no more arrive
unfoldable pub finishes : Arrivals → Progress → Bool
finishes arrivals now =
    not (idle now.box) && (eqb now.arrived (packets arrivals) || leb now.due (stamp_of arrivals now.arrived))

-- the two words of the next event. A class of 0 would say that the line has finished; beside it stands a length that no finish has
unfoldable pub class_next : Arrivals → Progress → ℕ
class_next arrivals now = cond (finishes arrivals now) 0 (class_of arrivals now.arrived)

unfoldable pub packet_length : ℕ → ℕ → ℕ
packet_length class length = cond (eqb class 0) 1 length

unfoldable pub length_next : Arrivals → Progress → ℕ
length_next arrivals now =
    cond (finishes arrivals now) 0 (packet_length (class_of arrivals now.arrived) (length_of arrivals now.arrived))

-- the moment of the next event
unfoldable pub moment_next : Arrivals → Progress → ℕ
moment_next arrivals now = cond (finishes arrivals now) now.due (stamp_of arrivals now.arrived)

-- the line's packet is finished when it was due, if the next event is an arrival that finds the line busy; else what is on the line now
-- went there at that event's moment
unfoldable pub due_next : Arrivals → ℕ → Progress → Box → ℕ
due_next arrivals rate now box =
    cond (finishes arrivals now || idle now.box) (moment_next arrivals now + sending rate (head_length box.rows 0)) now.due

-- the next event, at place i of the list
unfoldable pub proceeds : Tree → Arrivals → ℕ → ℕ → Progress → Progress
proceeds tree arrivals rate i now =
    let box = step tree i (decode (class_next arrivals now) (length_next arrivals now)) now.box in
    record {
      arrived = now.arrived + cond (finishes arrivals now) 0 1;
      due = due_next arrivals rate now box;
      box = box;
    }

-- after the first n events
unfoldable pub progress : Tree → Arrivals → ℕ → ℕ → Progress
progress tree arrivals rate zero = record { arrived = 0; due = 0; box = fresh }
progress tree arrivals rate (suc n) = proceeds tree arrivals rate n (progress tree arrivals rate n)

-- the first n events as a list
unfoldable pub listed : Tree → Arrivals → ℕ → ℕ → Events
listed tree arrivals rate zero = events_of [] []
listed tree arrivals rate (suc n) =
    let now = progress tree arrivals rate n in
    let before = listed tree arrivals rate n in
    events_of (before.classes ++ class_next arrivals now ∷ []) (before.lengths ++ length_next arrivals now ∷ [])

-- the whole list: an arrival and a finish for each packet
unfoldable pub list_of : Tree → Arrivals → ℕ → Events
list_of tree arrivals rate = listed tree arrivals rate (2 * packets arrivals)
