-- `sheet::fraction::Fraction::plus` meets its contract: each product and their sum are tested as they are made.
-- Assumes nothing.
use Prim.Native.Nat.{ℕ, ◌+◌, ◌*◌, ◌/◌, ◌≤◌}
use mathlib.Core.Path.{sym, ap, ◌∙◌}
use native.Mathlib.Nat.{mul-pos}
use native.Mathlib.Omega.{arith}
use Rattle.sheet.specs.Paper.{limit, figure, sum_of}
use Rattle.sheet.specs.Answered.{terms}
use Rattle.sheet.proofs.Figures.{fits_both, numerator_over, denominator_over, times_some}
use Rattle.sheet.proofs.Greatest.{greatest_some}
use Rattle.sheet.proofs.fraction.Fraction.plus.Goals as goal

-- a sum is too large where one part is
first_over : (n a b : ℕ) → n ≤ a → n ≤ a + b
first_over n a b over = omega arith

second_over : (n a b : ℕ) → n ≤ b → n ≤ a + b
second_over n a b over = omega arith

pub nonzero_div-times : goal.nonzero_div-times
nonzero_div-times c = rw c.common-by.ensures (greatest_some _ _ _)

pub nonzero_div-crosswise : goal.nonzero_div-crosswise
nonzero_div-crosswise c = rw c.common-by.ensures (greatest_some _ _ _)

pub returns-in_err-one : goal.returns-in_err-one
unfolding sum_of
returns-in_err-one c =
    let large : limit ≤ c.args.self.numerator * (c.args.part.denominator / c.common-by.result) = omega (arith, c.in_err-one.ensures) in
    rw c.from_residual.ensures (sym (numerator_over _ (first_over _ _ _ (rw c.common-by.ensures at large))))

pub returns-in_err-other : goal.returns-in_err-other
unfolding sum_of
returns-in_err-other c =
    let large : limit ≤ c.args.part.numerator * (c.args.self.denominator / c.common-by.result) = omega (arith, c.in_err-other.ensures) in
    rw c.from_residual-in_err-other.ensures (sym (numerator_over _ (second_over _ _ _ (rw c.common-by.ensures at large))))

pub returns-in_err-numerator : goal.returns-in_err-numerator
unfolding sum_of
returns-in_err-numerator c =
    let large : limit ≤ c.in_ok-one.one + c.in_ok-other.other = omega (arith, c.in_err-numerator.ensures) in
    rw c.from_residual-in_err-numerator.ensures
    (sym (numerator_over _ (rw (c.in_ok-one.ensures.1, c.in_ok-other.ensures.1, c.common-by.ensures) at large)))

pub returns-in_err-denominator : goal.returns-in_err-denominator
unfolding sum_of
returns-in_err-denominator c =
    let large : limit ≤ c.args.self.denominator * (c.args.part.denominator / c.common-by.result) = omega (arith, c.in_err-denominator.ensures) in
    rw c.from_residual-in_err-denominator.ensures (sym (denominator_over _ (rw c.common-by.ensures at large)))

pub lowest-requires : goal.lowest-requires
lowest-requires c =
    rw c.in_ok-denominator.ensures.1
    (mul-pos c.args.self.some (rw c.common-by.ensures (times_some (terms c.args.self) (terms c.args.part) c.args.part.some)))

pub returns : goal.returns
unfolding sum_of
returns c =
    let n = c.in_ok-numerator.ensures in
    let d = c.in_ok-denominator.ensures in
    let one = c.in_ok-one.ensures.1 in
    let other = c.in_ok-other.ensures.1 in
    ap figure c.lowest.ensures
    ∙ rw (← c.common-by.ensures, n.1, d.1, one, other) (sym (fits_both _ (rw (one, other) at n.0) d.0))
