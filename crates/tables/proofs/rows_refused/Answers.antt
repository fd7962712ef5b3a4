-- `tables::rows_refused` meets its contract: each answer by the tests on its way.
-- Assumes nothing.
use mathlib.Core.Path.{refl}
use native.Mathlib.Omega.{arith}
use Rattle.tables.proofs.Judging.{refuses}
use Rattle.tables.proofs.Tests.{tests}
use Rattle.input.specs.Refusals.{rows_refused, given, nothing}
use Rattle.tables.proofs.rows_refused.Goals as goal

pub returns-then-parents-rows : goal.returns-then-parents-rows
unfolding rows_refused given nothing
returns-then-parents-rows c table rows parents shares = rw (rows, parents, shares) (refuses c.refusal.ensures (omega arith) (search tests))

pub returns-then-shares-rows : goal.returns-then-shares-rows
unfolding rows_refused given nothing
returns-then-shares-rows c table rows parents shares = rw (rows, parents, shares) (refuses c.refusal-then-shares-rows.ensures (omega arith) (search tests))

pub returns-then-rows-lt-LEAST_ROWS : goal.returns-then-rows-lt-LEAST_ROWS
unfolding rows_refused given nothing
returns-then-rows-lt-LEAST_ROWS c table rows parents shares = rw (rows, parents, shares) (refuses c.refusal-then-rows-lt-LEAST_ROWS.ensures (omega arith) (search tests))

pub returns-then-rows-gt-MOST_ROWS : goal.returns-then-rows-gt-MOST_ROWS
unfolding rows_refused given nothing
returns-then-rows-gt-MOST_ROWS c table rows parents shares = rw (rows, parents, shares) (refuses c.refusal-then-rows-gt-MOST_ROWS.ensures (omega arith) (search tests))

pub returns : goal.returns
unfolding rows_refused given nothing
returns c table rows parents shares = rw (rows, parents, shares) (search tests, refl)
