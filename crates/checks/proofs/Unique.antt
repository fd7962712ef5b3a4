-- The contracts leave no choice: no two different outcomes meet one.
-- Assumes nothing.
use Rattle.words.specs.Unique.{Unique}
use Rattle.input.specs.Classes.{Table}
use Rattle.input.specs.Events.{Events}
use Rattle.input.specs.Refusals.{Room}
use Rattle.rules.specs.Refused.{refused}
use Rattle.tables.proofs.Unique.{one_judged}
use Rattle.checks.specs.Counted.{lengths_refused, ChecksLengths, checked, Checks}

pub one_refusal : (table : Table) (events : Events) (room : Room) → Unique (ChecksLengths table events room)
one_refusal table events room = one_judged (lengths_refused table events room) tt

pub one_check : (table : Table) (events : Events) (room : Room) → Unique (Checks table events room)
one_check table events room = one_judged (refused table events room) (checked table events)
