-- How large the words of a sound live state are: narrow enough for the code's types, and with room for what one event adds.
use Rattle.std.specs.Prelude.{ℕ, ◌+◌, ◌^◌, ◌≤◌, ◌<◌, get_or}
use Rattle.input.specs.Limits.{most_depth, most_identifier, most_bytes, whole}
use Rattle.input.specs.Classes.{parent, depth, share}
use Rattle.rules.specs.Box.{start, finish, virtual, head, head_length, head_class}
use Rattle.live_rules.specs.Limits.{most_held}
use Rattle.live_rules.specs.State.{Live}

-- the words that the code has in fewer bits
pub record Narrow (live : Live) : Type 0 where
  pub identifiers : (r : ℕ) → get_or live.tree.identifiers r 0 ≤ most_identifier
  pub parents : (r : ℕ) → parent live.tree r ≤ 255
  pub depths : (r : ℕ) → depth live.tree r ≤ most_depth
  pub shares : (r : ℕ) → share live.tree r ≤ whole
  pub heads : (r : ℕ) → head live.rows r < 2 ^ 32
  pub head_lengths : (r : ℕ) → head_length live.rows r ≤ most_bytes
  pub head_classes : (r : ℕ) → head_class live.rows r ≤ 255
  pub held : (r : ℕ) → get_or live.held r 0 ≤ most_held

-- tags and counts, in 64 bits
pub record Fits (live : Live) : Type 0 where
  pub starts : (r : ℕ) → start live.rows r ≤ 2 ^ 63 + 2 ^ 62
  pub finishes : (r : ℕ) → finish live.rows r ≤ 2 ^ 63 + 2 ^ 62
  pub virtuals : (r : ℕ) → virtual live.rows r ≤ 2 ^ 63 + 2 ^ 62
  pub bytes : (r : ℕ) → get_or live.bytes r 0 ≤ 2 ^ 45
  pub since : (r : ℕ) → get_or live.since r 0 ≤ 2 ^ 45
  pub parent_since : (r : ℕ) → get_or live.parent_since r 0 ≤ 2 ^ 45
