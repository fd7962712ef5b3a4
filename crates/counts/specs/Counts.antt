-- What is counted along a path: which trees and boxes a contract speaks of, those that have the lent arrays in these places and
-- whatever in the others; and how a row's entry is changed.
use Rattle.std.specs.Prelude.{ℕ, suc, pred, ◌+◌, ◌≤◌, ◌<◌, ◌^◌, cond, ◌≡◌, List, [], eqb, get_or, set}
use Rattle.input.specs.Limits.{most_rows}
use Rattle.input.specs.Classes.{Tree}
use Rattle.input.specs.Lent.{tree_with}
use Rattle.rules.specs.Box.{Box}
use Rattle.arrays.specs.declared.TreeArrays.{TreeArrays}
use Rattle.arrays.specs.declared.CountArrays.{CountArrays}

-- the entry of each row that there can be is at most m
abbrev pub AtMost : ℕ → List ℕ → Type 0
AtMost m xs = (r : ℕ) → r < most_rows → get_or xs r 0 ≤ m

-- bytes that a row has finished, at most: more than 2 ^ 31 packets have
abbrev pub most_finished : ℕ
most_finished = 2 ^ 45

-- ── trees and boxes ──

-- the tree's parents and depths, by which its paths go, are these
pub record Paths (tree : Tree) (t : TreeArrays) : Type 0 where
  pub parents : tree.parents ≡ t.parents
  pub depths : tree.depths ≡ t.depths

-- a tree with these parents and depths and nothing else
abbrev pub path_tree : TreeArrays → Tree
path_tree t = tree_with 0 [] t.parents t.depths []

-- the box's counts are these: bytes finished, packets held, own and parent's bytes when the backlog began
pub record Counts (box : Box) (c : CountArrays) : Type 0 where
  pub bytes : box.bytes ≡ c.bytes
  pub held : box.held ≡ c.held
  pub since : box.since ≡ c.since
  pub parent_since : box.parent_since ≡ c.parent_since

-- ── one row's entry ──

-- the bytes that a row has finished, and those that its parent has
abbrev pub own : List ℕ → ℕ → ℕ
own bytes r = get_or bytes r 0

abbrev pub above : List ℕ → List ℕ → ℕ → ℕ
above parents bytes r = get_or bytes (get_or parents r 0) 0

-- what row r's backlog began from: what is counted now if the row holds nothing, else as before
abbrev pub begun : List ℕ → (ℕ → ℕ) → ℕ → ℕ → ℕ
begun held counted r n = cond (eqb (get_or held r 0) 0) (counted r) n

-- row r's entry is changed
abbrev pub changed : (ℕ → ℕ → ℕ) → ℕ → List ℕ → List ℕ
changed f r xs = set xs r (f r (get_or xs r 0))

-- an arrival at row r: it holds one packet more, and its backlog begins if it held nothing
pub record Entered (t : TreeArrays) (r : ℕ) (c c' : CountArrays) : Type 0 where
  pub bytes_stay : c'.bytes ≡ c.bytes
  pub held_after : c'.held ≡ changed (λ i n. suc n) r c.held
  pub since_after : c'.since ≡ changed (begun c.held (own c.bytes)) r c.since
  pub parent_since_after : c'.parent_since ≡ changed (begun c.held (above t.parents c.bytes)) r c.parent_since

-- a finish at row r: it has finished so many bytes more, and holds one packet less
pub record Left (length r : ℕ) (c c' : CountArrays) : Type 0 where
  pub bytes_after : c'.bytes ≡ changed (λ i n. n + length) r c.bytes
  pub held_after : c'.held ≡ changed (λ i n. pred n) r c.held
  pub since_stays : c'.since ≡ c.since
  pub parent_since_stays : c'.parent_since ≡ c.parent_since
