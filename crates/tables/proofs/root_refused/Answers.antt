-- `tables::root_refused` meets its contract: each answer by the tests on its way.
-- Assumes nothing.
use mathlib.Core.Path.{refl}
use native.Mathlib.Omega.{arith}
use Rattle.tables.proofs.Judging.{refuses}
use Rattle.tables.proofs.Tests.{tests}
use Rattle.input.specs.Refusals.{root_refused, first, or_else, given, nothing}
use Rattle.tables.proofs.root_refused.Goals as goal

pub returns-then-identifiers-eq0 : goal.returns-then-identifiers-eq0
unfolding root_refused first or_else given nothing
returns-then-identifiers-eq0 c = refuses c.refusal.ensures (omega arith) (search tests)

pub returns-then-identifiers-gt-MOST_IDENTIFIER : goal.returns-then-identifiers-gt-MOST_IDENTIFIER
unfolding root_refused first or_else given nothing
returns-then-identifiers-gt-MOST_IDENTIFIER c = refuses c.refusal-then-identifiers-gt-MOST_IDENTIFIER.ensures (omega arith) (search tests)

pub returns-then-parent_identifiers-ne0 : goal.returns-then-parent_identifiers-ne0
unfolding root_refused first or_else given nothing
returns-then-parent_identifiers-ne0 c = refuses c.refusal-then-parent_identifiers-ne0.ensures (omega arith) (search tests)

pub returns-then-shares-ne0 : goal.returns-then-shares-ne0
unfolding root_refused first or_else given nothing
returns-then-shares-ne0 c = refuses c.refusal-then-shares-ne0.ensures (omega arith) (search tests)

pub returns : goal.returns
unfolding root_refused first or_else given nothing
returns c = (search tests, refl)
