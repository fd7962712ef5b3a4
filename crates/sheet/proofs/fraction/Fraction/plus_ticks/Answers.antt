-- `sheet::fraction::Fraction::plus_ticks` meets its contract.
-- Assumes nothing.
use mathlib.Core.Path.{refl}
use Rattle.sheet.specs.Paper.{figure}
use Rattle.sheet.specs.Answered.{terms}
use Rattle.sheet.proofs.Figures.{ticks_added}
use Rattle.sheet.proofs.fraction.Fraction.plus_ticks.Goals as goal

pub returns : goal.returns
returns c = rw (ticks_added c.args.ticks (figure (terms c.args.self)) refl, c.plus.ensures, c.lowest.ensures) refl
