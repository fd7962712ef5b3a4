-- `checks::packet_refused` meets its contract: each answer by the tests on its way.
-- Assumes nothing.
use mathlib.Core.Path.{refl}
use native.Mathlib.Omega.{arith}
use Rattle.input.specs.Refusals.{first, or_else, given, nothing, packet_refused}
use Rattle.tables.proofs.Judging.{refuses}
use Rattle.tables.proofs.Tests.{tests}
use Rattle.checks.proofs.packet_refused.Goals as goal

pub returns-then-not-sending : goal.returns-then-not-sending
unfolding packet_refused first or_else given nothing
returns-then-not-sending c = refuses c.refusal.ensures (omega arith) (search (tests, c.if-not-sending.true))

pub returns-then-length-lt-LEAST_BYTES : goal.returns-then-length-lt-LEAST_BYTES
unfolding packet_refused first or_else given nothing
returns-then-length-lt-LEAST_BYTES c = refuses c.refusal-then-length-lt-LEAST_BYTES.ensures (omega arith) (search (tests, c.if-not-sending.false))

pub returns-then-length-gt-MOST_BYTES : goal.returns-then-length-gt-MOST_BYTES
unfolding packet_refused first or_else given nothing
returns-then-length-gt-MOST_BYTES c = refuses c.refusal-then-length-gt-MOST_BYTES.ensures (omega arith) (search (tests, c.if-not-sending.false))

pub returns : goal.returns
unfolding packet_refused first or_else given nothing
returns c = (search (tests, c.if-not-sending.false), refl)
