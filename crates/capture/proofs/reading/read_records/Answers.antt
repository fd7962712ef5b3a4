-- `read_records` meets its contract: a capture that is not refused can be read.
-- Assumes nothing.
use Rattle.records.proofs.Answering.{found}
use Rattle.capture.proofs.reading.read_records.Goals as goal

pub read-requires-clause-found : goal.read-requires-clause-found
read-requires-clause-found c = found c.args.capture.now c.args.rate c.in-Ok.scan c.in-Ok.ensures
