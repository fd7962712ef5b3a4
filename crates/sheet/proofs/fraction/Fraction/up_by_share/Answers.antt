-- `sheet::fraction::Fraction::up_by_share` meets its contract: whatever is found too large makes the numerator so.
-- Assumes nothing.
use Prim.Native.Nat.{◌*◌, ◌≤◌}
use mathlib.Core.Path.{refl, sym, ap, ◌∙◌}
use native.Mathlib.Omega.{arith}
use Rattle.input.specs.Limits.{packets_a_step}
use Rattle.rules.specs.Promise.{Ratio, step_up}
use Rattle.sheet.specs.Paper.{limit, figure}
use Rattle.sheet.specs.Answered.{terms}
use Rattle.sheet.proofs.Figures.{over_nothing, steps_up, too_many}
use Rattle.sheet.proofs.fraction.Fraction.up_by_share.Goals as goal

pub returns-then-share-eq0 : goal.returns-then-share-eq0
returns-then-share-eq0 c = sym (over_nothing c.args.largest c.args.share (figure (terms c.args.self)) refl c.if-share-eq0.true)

pub returns-in_err-more : goal.returns-in_err-more
returns-in_err-more c =
    let args = c.args in
    let large : limit ≤ packets_a_step * args.largest * args.self.denominator = omega (arith, c.in_err-more.ensures) in
    rw c.from_residual.ensures (sym (too_many args.largest args.share (figure (terms args.self)) refl c.if-share-eq0.false (omega arith)))

pub returns-in_err-numerator : goal.returns-in_err-numerator
returns-in_err-numerator c =
    let args = c.args in
    rw c.from_residual-in_err-numerator.ensures
    (sym
    (too_many args.largest args.share (figure (terms args.self)) refl c.if-share-eq0.false
    (omega (arith, c.in_err-numerator.ensures, c.in_ok-more.ensures.1))))

pub returns : goal.returns
unfolding step_up
returns c =
    let args = c.args in
    let n = ap (λ (q : Ratio). q.numerator) c.lowest-part.ensures in
    let d = ap (λ (q : Ratio). q.denominator) c.lowest-part.ensures in
    rw (steps_up args.largest args.share (figure (terms args.self)) refl c.if-share-eq0.false)
    (c.times.ensures ∙ rw (c.in_ok-numerator.ensures.1, c.in_ok-more.ensures.1, n, d) refl)
