-- `tables::child_share` meets its contract: a share has 32 bits.
-- Assumes nothing.
use native.Mathlib.Omega.{arith}
use Rattle.tables.proofs.child_share.Goals as goal

pub returns-then-child : goal.returns-then-child
returns-then-child c = (
  c.wide.ensures.1,
  λ tree e1 e2. rw (← c.child.ensures tree e1, c.if-child.true, e2, c.wide.ensures.0),
)

pub returns : goal.returns
returns c = (omega arith, λ tree e1 e2. rw (← c.child.ensures tree e1, c.if-child.false))
