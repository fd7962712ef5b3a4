-- `due_after` meets its contract, by its tests.
-- Assumes nothing.
use native.Mathlib.Omega.{arith}
use Rattle.listing.proofs.next.due_after.Goals as goal

pub returns-then-next : goal.returns-then-next
returns-then-next c = rw c.if-next.true (omega arith)

pub returns-then-idle : goal.returns-then-idle
returns-then-idle c = rw (c.if-next.false, c.if-idle.true) (omega arith)

pub returns : goal.returns
returns c = rw (c.if-next.false, c.if-idle.false)
