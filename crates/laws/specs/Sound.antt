-- What a tree has that was read from a table that is not refused, and what an accepted event has.
use Rattle.std.specs.Prelude.{ℕ, suc, ◌≤◌, ◌<◌, ◌≡◌, true, false, List, T, length, get_or}
use Rattle.input.specs.Limits.{most_rows, most_depth, most_bytes, whole}
use Rattle.input.specs.Shares.{allowed}
use Rattle.input.specs.Classes.{Tree, parent, depth, share, row_of, on_air, sends, children_share}

pub record Sound (tree : Tree) : Type 0 where
  pub some_rows : 0 < tree.rows
  pub few_rows : tree.rows ≤ most_rows
  pub named : length tree.identifiers ≡ tree.rows
  pub root_depth : depth tree 0 ≡ 0
  pub parent_row : (r : ℕ) → 0 < r → r < tree.rows → parent tree r < tree.rows
  pub deeper : (r : ℕ) → 0 < r → r < tree.rows → depth tree r ≡ suc (depth tree (parent tree r))
  pub shallow : (r : ℕ) → r < tree.rows → depth tree r ≤ most_depth
  pub share_allowed : (r : ℕ) → 0 < r → r < tree.rows → T (allowed (share tree r))
  pub shares_fit : (p : ℕ) → p < tree.rows → children_share tree p tree.rows ≤ whole

-- no two rows have identifiers that are one on the air
abbrev pub ApartOnAir : List ℕ → Type 0
ApartOnAir identifiers =
    (r s : ℕ) → r < length identifiers → s < length identifiers → on_air (get_or identifiers r 0) ≡ on_air (get_or identifiers s 0) → r ≡ s

-- row j is a child of row p
pub record Kid (tree : Tree) (p j : ℕ) : Type 0 where
  pub positive : 0 < j
  pub inside : j < tree.rows
  pub under : parent tree j ≡ p

-- row p is no sending class: it has a virtual time of its own
pub record Inner (tree : Tree) (p : ℕ) : Type 0 where
  pub inside : p < tree.rows
  pub no_sender : sends tree p ≡ false

-- row k is a sending class
pub record Sender (tree : Tree) (k : ℕ) : Type 0 where
  pub positive : 0 < k
  pub inside : k < tree.rows
  pub sender : sends tree k ≡ true

-- an arrival that is not refused
pub record ArrivalFits (tree : Tree) (class length : ℕ) : Type 0 where
  pub sender : Sender tree (row_of tree class)
  pub some_bytes : 0 < length
  pub few_bytes : length ≤ most_bytes
