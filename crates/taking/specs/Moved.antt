-- What an event needs that is taken, and the rows after it.
use Rattle.std.specs.Prelude.{ℕ, ◌<◌, ◌≤◌, ◌≡◌, ◌≢◌, Option, take}
use Rattle.input.specs.Limits.{most_bytes}
use Rattle.rules.specs.Box.{Box, head, left}
use Rattle.laws.specs.Sound.{Sender}
use Rattle.arrays.specs.declared.RowArrays.{RowArrays}
use Rattle.arrays.specs.declared.CountArrays.{CountArrays}
use Rattle.arrays.specs.Arrays.{rows_in}
use Rattle.hierarchy.specs.Next.{next_of}
use Rattle.counts.specs.Counts.{Counts}
use Rattle.live_rules.specs.State.{Live, box_of, events}
use Rattle.live_laws.specs.Holds.{Holds}
use Rattle.moving.specs.Arrays.{went}
use Rattle.state.specs.declared.State.{State}
use Rattle.state.specs.Opened.{Opened}

-- a packet of so many bytes can arrive for class k of a sound state that was read, with the next event's name
pub record ArrivalComes (live : Live) (state : State) (k size name : ℕ) : Type 0 where
  pub holds : Holds live
  pub opened : Opened live state
  pub sender : Sender live.tree k
  pub some_bytes : 0 < size
  pub few_bytes : size ≤ most_bytes
  pub name_is : name ≡ events live

-- the line's packet can finish; its class's next, if it has one, has this name + 1 and this length
pub record FinishComes (live : Live) (state : State) (next size : ℕ) : Type 0 where
  pub holds : Holds live
  pub opened : Opened live state
  pub busy : head live.rows 0 ≢ 0
  pub few_bytes : size ≤ most_bytes
  pub next_is : take 1 (left (box_of live)) ≡ next_of next size

-- these are the rows of a box, and what it put on the line
pub record MovedTo (box : Box) (sent : Option ℕ) (rows : RowArrays) (counts : CountArrays) : Type 0 where
  pub rows_are : box.rows ≡ rows_in rows
  pub counts_are : Counts box counts
  pub sent_is : went sent ≡ box.order
