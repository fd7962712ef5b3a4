-- How large the numbers of a box can be, by the packets that have left it: its tags, level by level, and what it has counted.
use Rattle.std.specs.Prelude.{ℕ, ◌+◌, ◌*◌, ◌≤◌, ◌<◌, ◌≡◌, ◌≢◌, cond, get_or}
use Rattle.input.specs.Limits.{scale}
use Rattle.input.specs.Classes.{Tree, parent}
use Rattle.rules.specs.Box.{Rows, Box, start, finish, virtual, head, has_head, bytes_of}
use Rattle.laws.specs.Sound.{Kid, Inner}
use Rattle.laws.specs.Kept.{Taken}

-- the most ticks that a tag at p's level can have when `gone` packets have left the box, none over `most` bytes:
-- one charge for each, and one for the packet that p has taken
abbrev pub level_most : ℕ → ℕ → Rows → ℕ → ℕ
level_most most gone a p = scale * most * (gone + cond (has_head a p) 1 0)

-- p's level with its taken child t
pub record SizedLevel (tree : Tree) (limit : ℕ) (a : Rows) (p t : ℕ) : Type 0 where
  pub virtual_sized : virtual a p ≤ limit
  -- the start of a child that waits, the finish of one that is idle or taken
  pub waiting_sized : (j : ℕ) → Kid tree p j → j ≢ t → head a j ≢ 0 → start a j ≤ limit
  pub idle_sized : (j : ℕ) → Kid tree p j → j ≢ t → head a j ≡ 0 → finish a j ≤ limit
  pub taken_sized : Kid tree p t → finish a t ≤ limit

-- every level, whichever child it has taken
abbrev pub Sized : Tree → ℕ → ℕ → Rows → Type 0
Sized tree most gone a = (p t : ℕ) → Inner tree p → Taken tree a p t → SizedLevel tree (level_most most gone a p) a p t

-- a start is at most its finish, in every row
abbrev pub Forward : Tree → Rows → Type 0
Forward tree a = (r : ℕ) → r < tree.rows → start a r ≤ finish a r

-- what has been counted: a row's bytes, and its own and its parent's when its backlog began
pub record Marked (tree : Tree) (most gone : ℕ) (box : Box) : Type 0 where
  pub bytes_most : (r : ℕ) → r < tree.rows → bytes_of box r ≤ most * gone
  pub since_most : (r : ℕ) → r < tree.rows → get_or box.since r 0 ≤ bytes_of box r
  pub parent_since_most : (r : ℕ) → r < tree.rows → get_or box.parent_since r 0 ≤ bytes_of box (parent tree r)
