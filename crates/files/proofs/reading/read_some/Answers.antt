-- `read_some` meets its contract: it reads nothing, or the bytes that the system gave.
-- Assumes nothing.
use Rattle.files.specs.Columns.{scan_after}
use Rattle.files.proofs.Bytes.{nothing, bytes_read, unread_scan}
use Rattle.files.proofs.reading.read_some.Goals as goal

pub returns-in_err-size : goal.returns-in_err-size
returns-in_err-size g c = rw (unread_scan c.args.scan _ c.from_residual.ensures.0) (nothing _)

pub returns-then-size-eq0 : goal.returns-then-size-eq0
unfolding scan_after
returns-then-size-eq0 g c = nothing _

pub returns : goal.returns
unfolding scan_after
returns g c = bytes_read _ c.read_bytes.ensures
