-- `tables::row_of` meets its contract: the rows that the loop has passed are not the class's.
-- Assumes nothing.
use mathlib.Core.Path.{sym}
use native.Mathlib.Omega.{arith}
use Rattle.tables.proofs.Places.{found_at, found_none}
use Rattle.tables.proofs.row_of.Goals as goal

pub returns-then-identifier-class : goal.returns-then-identifier-class
returns-then-identifier-class c =
    let a = c.args in
    let at = c.loop-r in
    (sym (found_at a.class a.identifiers.now at.r (omega arith) c.if-identifier-class.true at.invariant), omega arith)

pub returns : goal.returns
returns c = found_none c.args.class c.args.identifiers.now (λ j below. c.loop-r.invariant j (omega arith))
