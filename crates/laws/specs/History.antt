-- What the theorems count in a list of events: the events that are not refused, the largest packets, backlogs and lags, a class's arrivals.
use Rattle.std.specs.Prelude.{ℕ, zero, suc, ◌*◌, ◌≤◌, ◌<◌, max, ◌≡◌, cond, List, [], ◌∷◌, ◌++◌, get_or, ℤ, pos, ◌-ℤ◌}
use Rattle.input.specs.Limits.{whole}
use Rattle.input.specs.Classes.{Tree, parent, share}
use Rattle.input.specs.Events.{Events, length_word, event}
use Rattle.rules.specs.Box.{bytes_of, held_by}
use Rattle.rules.specs.Steps.{after}
use Rattle.rules.specs.Refused.{event_refused}
use Rattle.rules.specs.Promise.{for_part, bytes_for, finished_in, holds, Backlogged}
use Rattle.input.specs.declared.Event.TheVariants.{Arrival, Finish}
use Rattle.laws.specs.Sound.{Sound}

-- a sound tree, and events the first n of which are not refused
pub record Accepted (tree : Tree) (events : Events) (n : ℕ) : Type 0 where
  pub sound : Sound tree
  pub each : (i : ℕ) → i < n → (event_refused tree events i).number ≡ 0

-- the largest packet that arrived in row r's part of the tree in the first n events
unfoldable pub largest_for : Tree → Events → ℕ → ℕ → ℕ
largest_for tree events r zero = 0
largest_for tree events r (suc n) = max (largest_for tree events r n) (cond (for_part tree events r n) (length_word events n) 0)

-- row r holds a packet at the moment m and after each of the events m .. n - 1
abbrev pub Keeps : Tree → Events → ℕ → ℕ → ℕ → Type 0
Keeps tree events r m n = (i : ℕ) → m ≤ i → i ≤ n → 0 < held_by (after tree events i) r

-- row r has a backlog after n events, since the event at place `from`, which ended its last empty moment: from there its lag counts
pub record Since (tree : Tree) (events : Events) (r n : ℕ) : Type 0 where
  pub from : ℕ
  pub earlier : from < n
  pub empty : held_by (after tree events from) r ≡ 0
  pub keeps : Keeps tree events r (suc from) n
  pub own_from : get_or (after tree events n).since r 0 ≡ bytes_of (after tree events from) r
  pub parent_from : get_or (after tree events n).parent_since r 0 ≡ bytes_of (after tree events from) (parent tree r)

-- the same by the events and the order, with the lag: share times the parent's bytes finished since then, less the whole times its own
pub record LagSince (tree : Tree) (events : Events) (order : List ℕ) (r n : ℕ) (lag : ℤ) : Type 0 where
  pub from : ℕ
  pub earlier : from < n
  pub empty : holds tree events order r from ≡ 0
  pub backlogged : Backlogged tree events order r from n
  pub lag_is :
      lag
      ≡ pos (share tree r * bytes_for tree events (parent tree r) (finished_in events order from n))
      -ℤ pos (whole * bytes_for tree events r (finished_in events order from n))

-- the packets that arrived for class k in the first n events, by place
unfoldable pub arrivals_of : Tree → Events → ℕ → ℕ → List ℕ
arrivals_of tree events k zero = []
arrivals_of tree events k (suc n) =
    arrivals_of tree events k n ++ cond (for_part tree events k n) (elim (event events n) [ Arrival class length ↦ n ∷ [] | Finish ↦ [] ]) []

-- the packets of a list that are for row r's part of the tree
unfoldable pub only_for : Tree → Events → ℕ → List ℕ → List ℕ
only_for tree events r [] = []
only_for tree events r (i ∷ is) = cond (for_part tree events r i) (i ∷ only_for tree events r is) (only_for tree events r is)
