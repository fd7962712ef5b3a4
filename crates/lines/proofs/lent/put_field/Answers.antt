-- `lines::put_field` meets its contract: the number, the comma.
-- Assumes nothing.
use Rattle.output.proofs.Pages.{then}
use Rattle.lines.proofs.lent.put_field.Goals as goal

pub returns : goal.returns
returns c = then _ _ _ c.put_number-used.ensures c.put_byte.ensures
