-- `tables::shares_refused` meets its contract: nothing refuses the rows passed.
-- Assumes nothing.
use mathlib.Core.Path.{◌≡◌, refl}
use native.Mathlib.Omega.{arith}
use borrow.Author.Tests.{lt-ltb, le-ltb}
use Rattle.input.specs.Limits.{whole}
use Rattle.input.specs.Classes.{tree_of}
use Rattle.input.specs.Refusals.{given, nothing, first_below, shares_refused}
use Rattle.tables.proofs.Judging.{refuses, at_place, none_more}
use Rattle.tables.proofs.shares_refused.Goals as goal

pub loop-p-init : goal.loop-p-init
unfolding first_below nothing
loop-p-init c table e0 e1 e2 = refl

pub returns-then-sum : goal.returns-then-sum
unfolding shares_refused given
returns-then-sum c table e0 e1 e2 =
    let here = c.loop-p in
    let sum = c.children_share-sum.ensures (tree_of table) e1 e2 in
    at_place (shares_refused table) here.p c.args.rows c.refusal.result (omega arith) (here.invariant table e0 e1 e2)
    (refuses c.refusal.ensures (omega arith) (rw (e0, ← sum, lt-ltb whole c.children_share-sum.result c.if-sum.true)))

pub loop-p-preserved : goal.loop-p-preserved
loop-p-preserved c table e0 e1 e2 =
    let here = c.loop-p in
    let sum = c.children_share-sum.ensures (tree_of table) e1 e2 in
    none_more (shares_refused table) here.p (here.invariant table e0 e1 e2)
    (unfold shares_refused given nothing in rw (e0, ← sum, le-ltb whole c.children_share-sum.result c.if-sum.false) refl)

pub returns : goal.returns
returns c table e0 e1 e2 =
    let end : c.loop-p.p ≡ c.args.rows = omega arith in
    (rw (← end) (c.loop-p.invariant table e0 e1 e2), refl)
