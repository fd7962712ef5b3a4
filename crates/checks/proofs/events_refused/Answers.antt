-- `checks::events_refused` meets its contract: each answer by the tests on its way.
-- Assumes nothing.
use mathlib.Core.Path.{refl}
use native.Mathlib.Omega.{arith}
use Rattle.input.specs.Refusals.{events_refused, given, nothing}
use Rattle.tables.proofs.Judging.{refuses}
use Rattle.tables.proofs.Tests.{tests}
use Rattle.checks.proofs.events_refused.Goals as goal

pub returns-then-lengths-events : goal.returns-then-lengths-events
unfolding events_refused given nothing
returns-then-lengths-events c list events lengths = rw (events, lengths) (refuses c.refusal.ensures (omega arith) (search tests))

pub returns-then-events-gt-MOST_EVENTS : goal.returns-then-events-gt-MOST_EVENTS
unfolding events_refused given nothing
returns-then-events-gt-MOST_EVENTS c list events lengths = rw (events, lengths) (refuses c.refusal-then-events-gt-MOST_EVENTS.ensures (omega arith) (search tests))

pub returns : goal.returns
unfolding events_refused given nothing
returns c list events lengths = rw (events, lengths) (search tests, refl)
