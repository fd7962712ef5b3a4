-- `Unread::put` keeps no more of the page used than it has.
-- Assumes nothing.
use Rattle.output.proofs.Pages.{within}
use Rattle.files.proofs.Unread.put.Goals as goal

pub invariant_of-page : goal.invariant_of-page
invariant_of-page g c = within _ _ _ _ _ c.page.invariant c.put_why-page-inside.ensures
