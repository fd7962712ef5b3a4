-- What is counted of each row, as a live state has it.
use Rattle.std.specs.Prelude.{◌≡◌}
use Rattle.arrays.specs.declared.CountArrays.{CountArrays}
use Rattle.live_rules.specs.State.{Live}

-- these arrays are a live state's counts
pub record Counted (live : Live) (counts : CountArrays) : Type 0 where
  pub bytes : live.bytes ≡ counts.bytes
  pub held : live.held ≡ counts.held
  pub since : live.since ≡ counts.since
  pub parent_since : live.parent_since ≡ counts.parent_since
