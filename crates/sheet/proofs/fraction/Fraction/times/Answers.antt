-- `sheet::fraction::Fraction::times` meets its contract: what is found too large is said to be.
-- Assumes nothing.
use mathlib.Core.Path.{sym, ap, ◌∙◌}
use native.Mathlib.Omega.{arith}
use Rattle.sheet.specs.Paper.{figure}
use Rattle.sheet.proofs.Figures.{fits_both, numerator_over, denominator_over}
use Rattle.sheet.proofs.fraction.Fraction.times.Goals as goal

pub returns-in_err-numerator : goal.returns-in_err-numerator
returns-in_err-numerator c = rw c.from_residual.ensures (sym (numerator_over _ (omega (arith, c.in_err-numerator.ensures))))

pub returns-in_err-denominator : goal.returns-in_err-denominator
returns-in_err-denominator c = rw c.from_residual-in_err-denominator.ensures (sym (denominator_over _ (omega (arith, c.in_err-denominator.ensures))))

pub returns : goal.returns
returns c =
    let n = c.in_ok-numerator.ensures in
    let d = c.in_ok-denominator.ensures in
    ap figure c.lowest.ensures ∙ rw (n.1, d.1) (sym (fits_both _ n.0 d.0))
