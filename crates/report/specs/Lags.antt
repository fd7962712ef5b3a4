-- What the lags are read from: which trees their contract speaks of, and what it asks of the counts.
use Rattle.std.specs.Prelude.{ℕ, ◌≤◌, ◌<◌, ◌≡◌, List, get_or}
use Rattle.input.specs.Classes.{Tree}
use Rattle.arrays.specs.declared.TreeArrays.{TreeArrays}
use Rattle.arrays.specs.declared.CountArrays.{CountArrays}
use Rattle.counts.specs.Counts.{own, above}

-- the tree's parents and shares are these
pub record Shares (tree : Tree) (t : TreeArrays) : Type 0 where
  pub parents : tree.parents ≡ t.parents
  pub shares : tree.shares ≡ t.shares

-- no row below n, nor its parent, had finished more bytes when the row's backlog began than it has now
pub record Past (n : ℕ) (parents : List ℕ) (c : CountArrays) : Type 0 where
  pub own_grew : (r : ℕ) → r < n → get_or c.since r 0 ≤ own c.bytes r
  pub above_grew : (r : ℕ) → r < n → get_or c.parent_since r 0 ≤ above parents c.bytes r
