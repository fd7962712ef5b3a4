-- `tables::has_child` meets its contract: none of the rows passed is a child.
-- Assumes nothing.
use mathlib.Core.Path.{◌≡◌, refl, sym, ◌∙◌}
use native.Mathlib.Numerals.{add-one}
use native.Mathlib.Omega.{arith}
use Rattle.input.specs.Classes.{has_child}
use Rattle.laws.proofs.Tree.Paths.{has_kid}
use Rattle.tables.proofs.has_child.Goals as goal

pub loop-r-init : goal.loop-r-init
unfolding has_child
loop-r-init c tree e = refl

pub returns-then-child : goal.returns-then-child
returns-then-child c tree e =
    let at = c.loop-r in
    sym (has_kid tree c.args.p at.r c.args.rows (omega arith) (sym (c.child.ensures tree e) ∙ c.if-child.true))

pub loop-r-preserved : goal.loop-r-preserved
unfolding has_child
loop-r-preserved c tree e = rw (add-one, c.loop-r.invariant tree e, ← c.child.ensures tree e, c.if-child.false)

pub returns : goal.returns
returns c tree e =
    let end : c.loop-r.r ≡ c.args.rows = omega arith in
    rw (← end) (sym (c.loop-r.invariant tree e))
