-- `children_share` meets its contract: the sum so far is that of the rows passed, and has room for as many shares as there can be rows.
-- Assumes nothing.
use Prim.Native.Nat.{◌+◌}
use mathlib.Core.Path.{◌≡◌, refl, ap₂}
use native.Mathlib.Numerals.{add-one}
use native.Mathlib.Omega.{arith}
use Rattle.refusals.specs.All.{children_share}
use Rattle.refusals.proofs.children_share.Goals as goal

pub loop-r-init : goal.loop-r-init
unfolding children_share
loop-r-init c = (omega arith, λ tree e1 e2. refl)

pub overflow_add-sum : goal.overflow_add-sum
overflow_add-sum c = omega (arith, c.child_share-sum.ensures.0)

pub loop-r-preserved : goal.loop-r-preserved
unfolding children_share
loop-r-preserved c = (
  omega (arith, c.child_share-sum.ensures.0),
  λ tree e1 e2. rw add-one (ap₂ ◌+◌ (c.loop-r.invariant.1 tree e1 e2) (c.child_share-sum.ensures.1 tree e1 e2)),
)

pub returns : goal.returns
returns c tree e1 e2 =
    let end : c.loop-r.r ≡ c.args.rows = omega arith in
    rw (← end) (c.loop-r.invariant.1 tree e1 e2)
