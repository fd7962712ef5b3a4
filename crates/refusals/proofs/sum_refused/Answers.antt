-- `sum_refused` meets its contract, by its test.
-- Assumes nothing.
use mathlib.Core.Path.{refl, ap}
use borrow.Author.Tests.{lt-ltb, le-ltb}
use Rattle.std.specs.Prelude.{Some}
use Rattle.input.specs.Refusals.{given, nothing}
use Rattle.tables.specs.Judged.{verdict}
use Rattle.refusals.specs.All.{sum_refused}
use Rattle.refusals.proofs.sum_refused.Goals as goal

pub returns-then-sum : goal.returns-then-sum
unfolding sum_refused given verdict
returns-then-sum c = rw (lt-ltb _ _ c.if-sum.true) (ap Some c.refusal.ensures)

pub returns-else-sum : goal.returns-else-sum
unfolding sum_refused given nothing verdict
returns-else-sum c = rw (le-ltb _ _ c.if-sum.false) refl
