-- `checks::room_refused` meets its contract: each answer by the tests on its way.
-- Assumes nothing.
use mathlib.Core.Path.{refl}
use native.Mathlib.Omega.{arith}
use Rattle.input.specs.Refusals.{given, nothing, room_refused}
use Rattle.tables.proofs.Judging.{refuses}
use Rattle.tables.proofs.Tests.{tests}
use Rattle.checks.proofs.room_refused.Goals as goal

pub returns-then-room-events : goal.returns-then-room-events
unfolding room_refused given nothing
returns-then-room-events c = refuses c.refusal.ensures (omega arith) (search tests)

pub returns-then-room-events-2 : goal.returns-then-room-events-2
unfolding room_refused given nothing
returns-then-room-events-2 c = refuses c.refusal-then-room-events-2.ensures (omega arith) (search tests)

pub returns-then-room-rows : goal.returns-then-room-rows
unfolding room_refused given nothing
returns-then-room-rows c = refuses c.refusal-then-room-rows.ensures (omega arith) (search tests)

pub returns-then-room-rows-2 : goal.returns-then-room-rows-2
unfolding room_refused given nothing
returns-then-room-rows-2 c = refuses c.refusal-then-room-rows-2.ensures (omega arith) (search tests)

pub returns : goal.returns
unfolding room_refused given nothing
returns c = (search tests, refl)
