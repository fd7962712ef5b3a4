-- Sizes: what the steps ask of the numbers in the rows so that no sum wraps.
use Rattle.std.specs.Prelude.{ℕ, ◌+◌, ◌*◌, ◌≤◌, ◌^◌}
use Rattle.input.specs.Limits.{most_rows, most_bytes}
use Rattle.rules.specs.Box.{Rows, start, finish, virtual, head_length}
use Rattle.choosing.specs.Sizes.{most_choice}

-- a tag at most: more than a packet of the largest charge adds for each of 2 ^ 31 + 1 packets, and below 2 ^ 64 by far more than an event adds
abbrev pub most_tag : ℕ
most_tag = 2 ^ 63 + 2 ^ 62

-- every tag is at most so large, and every length is a packet's
pub record Small (rows : Rows) : Type 0 where
  pub starts : (i : ℕ) → start rows i ≤ most_tag
  pub finishes : (i : ℕ) → finish rows i ≤ most_tag
  pub virtuals : (i : ℕ) → virtual rows i ≤ most_tag
  pub head_lengths : (i : ℕ) → head_length rows i ≤ most_bytes

-- ticks by which the choices from a row up to the root raise a tag, at most one choice for each row that there can be
abbrev pub most_climb : ℕ
most_climb = most_rows * most_choice
