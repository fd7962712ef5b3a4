-- `count_refused` meets its contract where the rows are neither too few nor too many.
-- Assumes nothing.
use mathlib.Core.Path.{refl}
use native.Mathlib.Omega.{arith}
use borrow.Author.Tests.{le-ltb}
use Rattle.input.specs.Refusals.{given, nothing}
use Rattle.forms.specs.Outcomes.{count_refused}
use Rattle.csv_text.proofs.reading.count_refused.Goals as goal

pub returns : goal.returns
unfolding count_refused given nothing
returns c = (rw (le-ltb c.args.rows 2 (omega arith), le-ltb 256 c.args.rows (omega arith)), refl)
