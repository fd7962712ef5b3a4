-- `report::lag_at` meets its contract, by the three cases of a lag.
-- Assumes nothing.
use mathlib.Core.Path.{◌∙◌}
use mir.Syntax.{w64}
use mir.ValLaws.{to_z-of_z}
use Rattle.report.proofs.Lags.{root_lag, idle_lag, busy_lag}
use Rattle.report.proofs.lag_at.Goals as goal
use Rattle.report.proofs.lag_at.Goals.{then-r-eq0-via-then-r-eq0, then-r-eq0-via-else-r-eq0+then-counts-r-eq0}

pub returns-then-r-eq0 : goal.returns-then-r-eq0
returns-then-r-eq0 c tree box by counts =
    elim c.then-r-eq0.branch [
      | then-r-eq0-via-then-r-eq0 w ↦ root_lag tree box _ w.if-r-eq0.true
      | then-r-eq0-via-else-r-eq0+then-counts-r-eq0 w ↦ idle_lag tree box _ w.if-r-eq0.false (rw counts.held w.if-counts-r-eq0.true)
    ]

pub returns : goal.returns
returns c tree box by counts =
    to_z-of_z w64 c.lag_of.result (record { sfits = c.lag_of.type_inv })
    ∙ c.lag_of.ensures
    ∙ rw (c.wide-p.ensures.0, c.long.ensures.0) (busy_lag tree box c.args.r _ _ c.if-r-eq0.false c.if-counts-r-eq0.false by counts)
