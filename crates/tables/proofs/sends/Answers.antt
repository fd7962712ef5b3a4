-- `tables::sends` meets its contract: the root does not send, any other row if it has no child.
-- Assumes nothing.
use Prim.Native.Nat.{ℕ}
use mathlib.Core.Path.{sym, ap}
use mathlib.Core.Bool.{not}
use native.Mathlib.Omega.{arith}
use borrow.Author.Tests.{lt-ltb}
use Rattle.input.specs.Classes.{has_child, sends}
use Rattle.tables.proofs.sends.Goals as goal

pub returns-then-r-eq0 : goal.returns-then-r-eq0
unfolding sends
returns-then-r-eq0 c tree e1 e2 = rw c.if-r-eq0.true

pub returns : goal.returns
unfolding sends
returns c tree e1 e2 =
    let s = c.args in
    rw (lt-ltb 0 s.r (omega arith), c.has_child.ensures tree e1) (ap (λ (n : ℕ). not (has_child tree s.r n)) (sym e2))
