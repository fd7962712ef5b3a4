-- What telling of a state that was read goes by, and what it leaves.
use Rattle.std.specs.Prelude.{ℕ, ◌-◌, ◌≤◌, ◌<◌, ◌≡◌, false, List, get_or, ℤ}
use Rattle.input.specs.Limits.{most_rows, whole}
use Rattle.rules.specs.Outcome.{report_of, lags_of, over}
use Rattle.counts.specs.Counts.{AtMost, most_finished}
use Rattle.report.specs.Lags.{Past}
use Rattle.live_rules.specs.State.{Live, box_of}
use Rattle.state.specs.declared.State.{State}

-- the numbers that a report's lags are worked out of are within bounds, and the root is no sending class
pub record Tellable (r : State) : Type 0 where
  pub few : r.rows_count ≤ most_rows
  pub root : 0 < r.rows_count → get_or r.senders 0 false ≡ false
  pub parents : AtMost (most_rows - 1) r.tree.parents
  pub shares : AtMost whole r.tree.shares
  pub bytes : AtMost most_finished r.counts.bytes
  pub past : Past r.rows_count r.tree.parents r.counts

-- the rows in use are told of, the words after them stay
pub record Written (live : Live) (report : List ℕ) (lags : List ℤ) (report' : List ℕ) (lags' : List ℤ) : Type 0 where
  pub report_is : report' ≡ over (report_of live.tree (box_of live) live.tree.rows) report
  pub lags_are : lags' ≡ over (lags_of live.tree (box_of live) live.tree.rows) lags
