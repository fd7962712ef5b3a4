-- Sizes: what a row asks of the numbers in the rows so that no sum wraps.
use Rattle.std.specs.Prelude.{ℕ, ◌+◌, ◌*◌, ◌≤◌, ◌<◌, ◌^◌}
use Rattle.input.specs.Limits.{most_bytes, ticks, scale}
use Rattle.rules.specs.Box.{Rows, start, finish, virtual, head_length}

-- so many more ticks fit every tag, and every length is a packet's
pub record Leeway (more : ℕ) (rows : Rows) : Type 0 where
  pub starts : (i : ℕ) → start rows i + more < 2 ^ 64
  pub finishes : (i : ℕ) → finish rows i + more < 2 ^ 64
  pub virtuals : (i : ℕ) → virtual rows i + more < 2 ^ 64
  pub head_lengths : (i : ℕ) → head_length rows i ≤ most_bytes

-- ticks by which a packet raises a tag, at most: a row's finish when it is charged, its virtual time when that passes over it
abbrev pub most_charge : ℕ
most_charge = scale * most_bytes

abbrev pub most_passed : ℕ
most_passed = ticks * most_bytes

-- the same of a choice, which does both
abbrev pub most_choice : ℕ
most_choice = most_charge + most_passed
