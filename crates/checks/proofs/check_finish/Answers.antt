-- `checks::check_finish` meets its contract: 13 before 14.
-- Assumes nothing.
use mathlib.Core.Path.{refl}
use native.Mathlib.Omega.{arith}
use Rattle.input.specs.EventRows.{row_for}
use Rattle.input.specs.Refusals.{or_else, first, given, nothing, meeting_refused}
use Rattle.tables.proofs.Judging.{refuses}
use Rattle.tables.proofs.Tests.{tests}
use Rattle.checks.proofs.check_finish.Goals as goal

pub returns-then-word-ne0 : goal.returns-then-word-ne0
unfolding meeting_refused or_else first given nothing
returns-then-word-ne0 c tree = refuses c.refusal.ensures (omega arith) (search tests)

pub returns-then-idle : goal.returns-then-idle
unfolding meeting_refused or_else first given nothing
returns-then-idle c tree = refuses c.refusal-then-idle.ensures (omega arith) (search (tests, c.if-idle.true))

pub returns : goal.returns
unfolding meeting_refused or_else first given nothing row_for
returns c tree = (search (tests, c.if-idle.false), refl)
