-- `read_all` meets its contract: each turn reads more.
-- Assumes nothing.
use Rattle.std.proofs.Common.{rules}
use Rattle.files.specs.Columns.{scan_after}
use Rattle.files.proofs.Bytes.{nothing, more, failed_reads, ended_reads}
use Rattle.files.proofs.reading.read_all.Goals as goal

pub loop-init : goal.loop-init
loop-init g c = (search rules, search rules, nothing _)

pub returns-in_err-next : goal.returns-in_err-next
returns-in_err-next g c = failed_reads _ (more c.loop.invariant.2 c.read_some.ensures) c.from_residual.ensures.0

pub returns-in-None : goal.returns-in-None
unfolding scan_after
returns-in-None g c =
    ended_reads (more c.loop.invariant.2 (rw (c.in_ok-next.was, c.in-None.is) at c.read_some.ensures))

pub loop-preserved : goal.loop-preserved
unfolding scan_after
loop-preserved g c =
    let at = c.loop in
    (search rules, search rules, more at.invariant.2 (rw (c.in_ok-next.was, c.in-Some.is) at c.read_some.ensures))

pub returns : goal.returns
returns g c = ended_reads c.loop.invariant.2
