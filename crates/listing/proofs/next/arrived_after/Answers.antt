-- `arrived_after` meets its contract, by its test.
-- Assumes nothing.
use native.Mathlib.Omega.{arith}
use Rattle.listing.proofs.next.arrived_after.Goals as goal

pub returns-then-next : goal.returns-then-next
returns-then-next c = rw c.if-next.true (omega arith)

pub returns : goal.returns
returns c = rw c.if-next.false (omega arith)
