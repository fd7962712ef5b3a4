-- `sheet::fraction::Fraction::lowest` meets its contract.
-- Assumes nothing.
use Rattle.sheet.specs.Paper.{fraction, lowest}
use Rattle.sheet.proofs.Figures.{denominator_some}
use Rattle.sheet.proofs.Greatest.{greatest_some}
use Rattle.sheet.proofs.fraction.Fraction.lowest.Goals as goal

pub nonzero_div-result : goal.nonzero_div-result
nonzero_div-result c = rw c.common-by.ensures (greatest_some _ _ _)

pub nonzero_div-result-2 : goal.nonzero_div-result-2
nonzero_div-result-2 c = rw c.common-by.ensures (greatest_some _ _ _)

pub invariant_of-result : goal.invariant_of-result
unfolding lowest
invariant_of-result c = record { some = rw c.common-by.ensures (denominator_some (fraction c.args.numerator c.args.denominator) c.requires) }

pub returns : goal.returns
unfolding lowest
returns c = rw c.common-by.ensures
