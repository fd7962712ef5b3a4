-- `Page::put_number` keeps no more used than there are bytes.
-- Assumes nothing.
use Rattle.output.proofs.Pages.{within}
use Rattle.output.proofs.Page.put_number.Goals as goal

pub invariant_of-self : goal.invariant_of-self
invariant_of-self g c = within _ _ _ _ _ c.self.invariant c.put_number-self-inside.ensures
