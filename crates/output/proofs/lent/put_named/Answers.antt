-- `output::put_named` meets its contract: one after the other.
-- Assumes nothing.
use Rattle.output.proofs.Pages.{then}
use Rattle.output.proofs.lent.put_named.Goals as goal

pub returns : goal.returns
returns c = then _ _ _ c.put_text-used.ensures c.put_word.ensures
