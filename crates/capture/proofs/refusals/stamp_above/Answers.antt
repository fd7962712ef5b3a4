-- `stamp_above` is safe: the record's header is there.
-- Assumes nothing.
use Rattle.capture.proofs.refusals.stamp_above.Goals as goal

pub stamp-requires : goal.stamp-requires
stamp-requires c = c.headed.ensures c.if-headed.true
