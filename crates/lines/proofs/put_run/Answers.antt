-- `lines::put_run` keeps no more of the page used than it has.
-- Assumes nothing.
use Rattle.output.proofs.Pages.{within}
use Rattle.lines.proofs.put_run.Goals as goal

pub invariant_of-page : goal.invariant_of-page
invariant_of-page g c = within _ _ _ _ _ c.page.invariant c.put_run-page-inside.ensures
