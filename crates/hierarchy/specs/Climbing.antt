-- What the way up asks of the rows and of how those that wait are filed, and what it leaves; and an arrival before it.
use Rattle.std.specs.Prelude.{ℕ, suc, ◌<◌, ◌≡◌, cond, List}
use Rattle.rules.specs.declared.Why.TheVariants.{Arrived}
use Rattle.input.specs.Classes.{Tree, depth}
use Rattle.rules.specs.Box.{Rows}
use Rattle.rules.specs.Steps.{new_head}
use Rattle.laws.specs.Sound.{Sound}
use Rattle.arrays.specs.Arrays.{has_head_of}
use Rattle.choosing.specs.Filed.{Filing}

-- the way up begins at row r, which is at depth d and aside
pub record Climbs (Filed : Filing) (tree : Tree) (class_of : ℕ → ℕ) (a : Rows) (r d : ℕ) : Type 0 where
  pub sound : Sound tree
  pub inside : r < tree.rows
  pub deep : depth tree r ≡ d
  pub filed : Filed tree class_of a r

-- the rows are those that the rules say, and nobody is aside
pub record Settles (Filed : Filing) (tree : Tree) (class_of : ℕ → ℕ) (is now : Rows) : Type 0 where
  pub rows_are : now ≡ is
  pub filed : Filed tree class_of now 0

-- ── a packet that arrives, before the way up ──

-- it is its class's head if that has none
unfoldable pub front_rows : Tree → ℕ → ℕ → ℕ → Rows → Rows
front_rows tree place k length a = cond (has_head_of a.heads k) a (new_head tree Arrived k (suc place) length k a)

-- then the way up begins at the class; else at the root, where it ends
unfoldable pub front_row : List ℕ → ℕ → ℕ
front_row heads k = cond (has_head_of heads k) 0 k
