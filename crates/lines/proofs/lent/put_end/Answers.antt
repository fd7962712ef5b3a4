-- `lines::put_end` meets its contract: one byte after the other.
-- Assumes nothing.
use Rattle.output.proofs.Pages.{then}
use Rattle.lines.proofs.lent.put_end.Goals as goal

pub returns : goal.returns
returns c = then _ _ _ c.put_byte-used.ensures c.put_byte.ensures
