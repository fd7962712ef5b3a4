-- `child_share` meets its contract, by its test.
-- Assumes nothing.
use mathlib.Core.Path.{refl}
use native.Mathlib.Omega.{arith}
use borrow.Author.Tests.{lt-ltb, le-ltb}
use Rattle.refusals.specs.All.{child_share}
use Rattle.refusals.proofs.child_share.Goals as goal

pub returns-then-p-r : goal.returns-then-p-r
unfolding child_share
returns-then-p-r c =
    (c.child_share.ensures.0, λ tree e1 e2. rw (lt-ltb _ _ c.if-p-r.true) (c.child_share.ensures.1 tree e1 e2))

pub returns : goal.returns
unfolding child_share
returns c = (omega arith, λ tree e1 e2. rw (le-ltb _ _ c.if-p-r.false) refl)
