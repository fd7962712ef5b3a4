-- `output::put_then` meets its contract: one after the other.
-- Assumes nothing.
use Rattle.output.proofs.Pages.{then}
use Rattle.output.proofs.lent.put_then.Goals as goal

pub returns : goal.returns
returns c = then _ _ _ c.put_word-used.ensures c.put_byte.ensures
