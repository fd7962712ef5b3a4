-- What the arrays of a run hold before each event and after it.
use Rattle.std.specs.Prelude.{ℕ, suc, ◌+◌, ◌≤◌, ◌<◌, ◌≡◌, Bool, List, length, get_or, drop}
use Rattle.std.proofs.lemmas.List.Edits.{sets}
use Rattle.input.specs.Limits.{most_depth, most_events, whole}
use Rattle.input.specs.Classes.{Tree}
use Rattle.input.specs.Events.{Events, count, event}
use Rattle.input.specs.EventRows.{row_for}
use Rattle.rules.specs.declared.Why.{Why}
use Rattle.rules.specs.Box.{Rows, head}
use Rattle.rules.specs.Steps.{up, after}
use Rattle.rules.specs.Outcome.{over}
use Rattle.laws.specs.History.{Accepted}
use Rattle.laws.specs.Named.{class_for}
use Rattle.arrays.specs.Arrays.{Inside}
use Rattle.arrays.specs.declared.CountArrays.{CountArrays}
use Rattle.choosing.specs.Filed.{Filing}
use Rattle.choosing.specs.Sizes.{Leeway}
use Rattle.hierarchy.specs.Sizes.{most_climb}
use Rattle.hierarchy.specs.Climbing.{Climbs, Settles}
use Rattle.counts.specs.Counts.{Counts}
use Rattle.queues.specs.Words.{sent_word}
use Rattle.events.specs.Links.{Linked}

-- an input that is not refused, with what its rows have that no class has: a parent, a depth and a share of 0
pub record Fit (tree : Tree) (events : Events) : Type 0 where
  pub accepted : Accepted tree events (count events)
  pub as_long : length events.lengths ≡ count events
  pub few : count events ≤ most_events
  pub inside : Inside tree.parents
  pub root : get_or tree.parents 0 0 ≡ 0
  pub shallow : (r : ℕ) → get_or tree.depths r 0 ≤ most_depth
  pub parts : (r : ℕ) → get_or tree.shares r 0 ≤ whole

-- before the event at place i the arrays are those of the box, with those that wait filed, and so many packets went on the line
pub record Now
    (Filed : Filing) (tree : Tree) (events : Events) (i sent : ℕ) (a : Rows) (c : CountArrays) (lasts links : List ℕ) : Type 0 where
  pub filed : Filed tree (class_for tree events) a 0
  pub rows_are : (after tree events i).rows ≡ a
  pub counts_are : Counts (after tree events i) c
  pub sent_are : sent ≡ length (after tree events i).order
  pub linked : Linked tree events i (after tree events i) lasts links

-- the event at place i comes, for this row, and there is room for what it writes
pub record Coming
    (Filed : Filing) (tree : Tree) (events : Events) (i row sent : ℕ) (a : Rows) (c : CountArrays) (lasts links order : List ℕ)
    : Type 0 where
  pub fit : Fit tree events
  pub inside : i < count events
  pub row_is : row ≡ row_for tree (event events i)
  pub links_room : count events ≤ length links
  pub order_room : count events ≤ length order
  pub now : Now Filed tree events i sent a c lasts links

-- it is over: the arrays are those of the next box; the order goes on, over whatever was lent; of the links the words from the
-- number of events on are as they were
pub record Gone
    (Filed : Filing) (tree : Tree) (events : Events) (i sent : ℕ) (a : Rows) (c : CountArrays)
    (lasts links links' order order' : List ℕ) : Type 0 where
  pub now : Now Filed tree events (suc i) sent a c lasts links'
  pub links_rest : drop (count events) links' ≡ drop (count events) links
  pub order_on :
      (lent : List ℕ) → length lent ≡ length order → order ≡ over (after tree events i).order lent → order' ≡ over (after tree events (suc i)).order lent

-- it has come as far as the way up: that may be gone from this row, and with it and with what goes on the line then, if the line is idle, it is over,
-- filed in whichever of the ways the children that wait are then
pub record Fronted
    {F : Type 0} (Filed : Filing) (filed_by : F → Filing) (tree : Tree) (events : Events) (i sent : ℕ) (order : List ℕ) (why : Why) (row depth : ℕ) (idle : Bool) (a : Rows)
    (c : CountArrays) (lasts links links' : List ℕ) : Type 0 where
  pub climbs : Climbs Filed tree (class_for tree events) a row depth
  pub leeway : Leeway most_climb a
  pub over :
      (b : Rows) (f : F) (sent' : ℕ) (order' : List ℕ) → Settles (filed_by f) tree (class_for tree events) (up depth tree why row a) b
      → order' ≡ sets order sent (sent_word idle (head b 0)) → sent' ≡ sent + length (sent_word idle (head b 0))
      → Gone (filed_by f) tree events i sent' b c lasts links links' order order'
