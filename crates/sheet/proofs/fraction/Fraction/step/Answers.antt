-- `sheet::fraction::Fraction::step` meets its contract: by the share, and then the ticks.
-- Assumes nothing.
use mathlib.Core.Path.{refl, sym}
use Rattle.sheet.specs.Paper.{outgrown, stepped}
use Rattle.sheet.proofs.Figures.{ticks_outgrown}
use Rattle.sheet.proofs.fraction.Fraction.step.Goals as goal

pub returns-in_err-up_by_share : goal.returns-in_err-up_by_share
unfolding stepped
returns-in_err-up_by_share c = rw (c.from_residual.ensures, ← c.in_err-up_by_share.ensures) (sym (ticks_outgrown c.args.ticks outgrown refl))

pub returns : goal.returns
unfolding stepped
returns c = rw (← c.in_ok-up_by_share.ensures) c.plus_ticks.ensures
