-- What a step asks of the rows and the counts so that no index is out of range and no sum wraps.
use Rattle.std.specs.Prelude.{ℕ, ◌≤◌, ◌^◌, List, get_or}
use Rattle.input.specs.Limits.{most_depth}
use Rattle.rules.specs.Box.{Rows}
use Rattle.arrays.specs.Arrays.{Inside}
use Rattle.hierarchy.specs.Sizes.{Small}
use Rattle.counts.specs.Counts.{AtMost, most_finished}

pub record Ready (parents depths : List ℕ) (a : Rows) (bytes held : List ℕ) : Type 0 where
  pub inside : Inside parents
  pub shallow : (r : ℕ) → get_or depths r 0 ≤ most_depth
  pub small : Small a
  pub bytes_small : AtMost most_finished bytes
  pub held_small : AtMost (2 ^ 31) held
