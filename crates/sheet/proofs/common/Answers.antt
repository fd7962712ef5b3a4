-- `sheet::common` meets its contract: every turn keeps what divides both numbers.
-- Assumes nothing.
use mathlib.Core.Path.{◌≡◌, sym}
use native.Mathlib.Nat.{dvd_refl, dvd-zero, dvd-mod_iff, le_of_dvd, mod-lt}
use native.Mathlib.Omega.{arith}
use Rattle.sheet.proofs.Greatest.{greatest_is}
use Rattle.sheet.proofs.common.Goals as goal

pub loop-x-init : goal.loop-x-init
loop-x-init c = (c.requires, λ d one other. (one, other), λ d one other. (one, other))

pub loop-x-smaller : goal.loop-x-smaller
loop-x-smaller c = mod-lt _ (omega (arith, c.loop-x-test.true))

pub loop-x-preserved : goal.loop-x-preserved
loop-x-preserved c =
    let at = c.loop-x in (
      omega (arith, c.loop-x-test.true),
      λ d rest one. at.invariant.1 d one ((dvd-mod_iff d one).0 rest),
      λ d one other. let kept = at.invariant.2 d one other in ((dvd-mod_iff d kept.0).1 kept.1, kept.0),
    )

pub returns : goal.returns
returns c =
    let args = c.args in
    let at = c.loop-x in
    let end : at.x ≡ 0 = omega arith in
    let its = at.invariant.1 at.y (rw end (dvd-zero at.y)) (dvd_refl at.y) in
    sym
    (greatest_is args.a args.b args.b at.y at.invariant.0 (le_of_dvd c.requires its.1) its.0 its.1
    (λ e one other. (at.invariant.2 e one other).1))
