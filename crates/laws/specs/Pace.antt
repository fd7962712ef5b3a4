-- Two boxes of one run, an event or more apart: what their tags and byte counts have to do with each other.
use Rattle.std.specs.Prelude.{ℕ, ◌+◌, ◌*◌, ◌-◌, ◌≤◌, ◌<◌}
use Rattle.input.specs.Limits.{ticks, scale}
use Rattle.input.specs.Classes.{Tree, share}
use Rattle.rules.specs.Box.{Rows, Box, start, finish, virtual, head_length, bytes_of, held_by}
use Rattle.laws.specs.Sound.{Inner}
use Rattle.laws.specs.Rounding.{rounding}

-- own pace: while a row holds packets, its start goes on by what its bytes cost, and at most the rounding of the n packets that it finished
abbrev pub OwnPace : Tree → Box → Box → ℕ → ℕ → Type 0
OwnPace tree one two j n =
    share tree j * start two.rows j + scale * bytes_of one j
    ≤ share tree j * start one.rows j + scale * bytes_of two j + share tree j * (rounding (share tree j) * n)

-- whole pace: the virtual time never falls behind the bytes finished and taken
abbrev pub WholePace : Box → Box → ℕ → Type 0
WholePace one two p =
    virtual one.rows p + ticks * (bytes_of two p + head_length two.rows p)
    ≤ virtual two.rows p + ticks * (bytes_of one p + head_length one.rows p)

-- one event; a row that then holds fewer packets has finished them
pub record Paced (tree : Tree) (one two : Box) : Type 0 where
  pub own : (j : ℕ) → 0 < j → j < tree.rows → 0 < held_by one j → 0 < held_by two j → OwnPace tree one two j (held_by one j - held_by two j)
  pub top : (p : ℕ) → Inner tree p → WholePace one two p
  pub grows : (r : ℕ) → r < tree.rows → bytes_of one r ≤ bytes_of two r

-- no tag of a row is above m
pub record Below (tree : Tree) (a : Rows) (m : ℕ) : Type 0 where
  pub starts_below : (r : ℕ) → r < tree.rows → start a r ≤ m
  pub finishes_below : (r : ℕ) → r < tree.rows → finish a r ≤ m
  pub virtuals_below : (r : ℕ) → r < tree.rows → virtual a r ≤ m
