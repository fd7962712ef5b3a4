-- `tables::child` meets its contract: row 0 is no child, any other row by its parent.
-- Assumes nothing.
use native.Mathlib.Omega.{arith}
use borrow.Author.Tests.{lt-ltb}
use Rattle.input.specs.Classes.{child}
use Rattle.tables.proofs.child.Goals as goal

pub returns-then-r-eq0 : goal.returns-then-r-eq0
unfolding child
returns-then-r-eq0 c tree e = rw c.if-r-eq0.true

pub returns : goal.returns
unfolding child
returns c tree e = rw (lt-ltb 0 c.args.r (omega arith), e, c.wide.ensures.0)
