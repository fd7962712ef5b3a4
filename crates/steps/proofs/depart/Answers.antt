-- `steps::depart` meets its contract: the rows' changes are those of the rules' departure.
-- Assumes nothing.
use mathlib.Core.List.{[]}
use lib.Dec.{lit<}
use Rattle.choosing.specs.Sizes.{most_charge}
use Rattle.hierarchy.proofs.Later.{renews_first}
use Rattle.hierarchy.proofs.Enough.{small_leeway}
use Rattle.steps.proofs.Leaving.{left_small}
use Rattle.steps.proofs.depart.Goals as goal

pub renew-requires-clause-leeway : goal.renew-requires-clause-leeway
renew-requires-clause-leeway c = small_leeway most_charge _ (lit< tt) (left_small _ _ _ _ c.requires.ready.small (c.finish_first.ensures 0 []))

pub returns-clause-rows_after : goal.returns-clause-rows_after
returns-clause-rows_after c = λ n ids later first. rw (renews_first, first, ← c.finish_first.ensures n ids) (c.renew.ensures n ids)
