-- `tell` meets its contract: the report, then the lags, of the arrays that were read.
-- Assumes nothing.
use Rattle.live_rules.specs.State.{box_of}
use Rattle.live_box.proofs.ReportOutcome.{shown, counts_are, shares_are, written}
use Rattle.live_box.proofs.telling.tell.Goals as goal

pub returns : goal.returns
returns c =
    λ live opened.
    let r = c.args.state.now in
    written live r opened _ _ _ _ (c.write_report.ensures live.tree (box_of live) opened.senders (shown live r opened))
    (c.write_lags.ensures live.tree (box_of live) (shares_are live r opened) (counts_are live r opened))
