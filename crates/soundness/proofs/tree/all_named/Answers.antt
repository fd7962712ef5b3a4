-- `all_named` meets its contract: the rows passed are named, and the table has their identifiers.
-- Assumes nothing.
use mathlib.Core.Path.{◌≡◌, refl, sym, ◌∙◌}
use native.Mathlib.Numerals.{add-one}
use native.Mathlib.Omega.{arith}
use Rattle.live_rules.specs.Soundness.{all, named}
use Rattle.soundness.specs.Bits.{met}
use Rattle.live_rules.proofs.Alls.{all_next, all_fails, all_same}
use Rattle.soundness.proofs.Names.{newly, named_newly, newly_test, met_start, met_turn}
use Rattle.soundness.proofs.tree.all_named.Goals as goal

pub loop-r-init : goal.loop-r-init
unfolding all
loop-r-init c = (refl, refl, λ x. met_start c.args.identifiers.now x)

pub returns-then-not-is_new : goal.returns-then-not-is_new
returns-then-not-is_new c tree e1 e2 =
    let ids = c.args.identifiers.now in
    let n = c.args.n in
    let r = c.loop-r.r in
    let this = sym (newly_test ids c.loop-r.table r c.loop-r.invariant.2) ∙ sym c.is_new.ensures ∙ c.if-not-is_new.true in
    sym (all_same n (named tree) (newly ids) (λ q inside. named_newly tree ids n q e2 inside) ∙ all_fails n (newly ids) r (omega arith) this)

pub loop-r-preserved : goal.loop-r-preserved
loop-r-preserved c =
    let ids = c.args.identifiers.now in
    let r = c.loop-r.r in
    let new = c.is_new in
    let this = sym (newly_test ids c.loop-r.table r c.loop-r.invariant.2) ∙ sym new.ensures ∙ c.if-not-is_new.false in (
      c.meet.ensures.table_stays_full,
      rw add-one (all_next r (newly ids) c.loop-r.invariant.1 this),
      λ x. rw (add-one, c.meet.ensures.met_after x) (met_turn ids r x (met c.loop-r.table x) (c.loop-r.invariant.2 x)),
    )

pub returns : goal.returns
returns c tree e1 e2 =
    let end : c.loop-r.r ≡ c.args.n = omega arith in
    sym (all_same c.args.n (named tree) (newly c.args.identifiers.now) (λ r inside. named_newly tree c.args.identifiers.now c.args.n r e2 inside) ∙ (rw end at c.loop-r.invariant.1))
