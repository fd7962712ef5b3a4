-- `queues::leave_first` meets its contract: a queue whose first packet has no next is empty then.
-- Assumes nothing.
use mathlib.Core.Path.{sym}
use Rattle.queues.proofs.Words.{shortened_none, shortened_some}
use Rattle.queues.proofs.leave_first.Goals as goal

pub returns-then-next-eq0-clause-lasts_after : goal.returns-then-next-eq0-clause-lasts_after
returns-then-next-eq0-clause-lasts_after c = sym (shortened_none _ _ _ c.if-next-eq0.true)

pub returns-else-next-eq0-clause-lasts_after : goal.returns-else-next-eq0-clause-lasts_after
returns-else-next-eq0-clause-lasts_after c = sym (shortened_some _ _ _ c.if-next-eq0.false)
