-- `tables::first_refused` meets its contract: nothing refuses the rows passed.
-- Assumes nothing.
use mathlib.Core.Path.{◌≡◌, refl, sym, ◌∙◌}
use native.Mathlib.Omega.{arith}
use Rattle.input.specs.Refusals.{first_below, nothing}
use Rattle.tables.proofs.Judging.{at_place, none_more, verdict_none, verdict_some}
use Rattle.tables.proofs.first_refused.Goals as goal

pub loop-r-init : goal.loop-r-init
unfolding first_below nothing
loop-r-init c at all = refl

pub returns-in-Some : goal.returns-in-Some
returns-in-Some c at all =
    let here = c.loop-r in
    at_place at here.r c.args.rows c.in-Some.refusal (omega arith) (here.invariant at all)
    (verdict_some (at here.r) c.in-Some.refusal (sym (all here.r (omega arith)) ∙ c.in-Some.is))

pub loop-r-preserved : goal.loop-r-preserved
loop-r-preserved c at all =
    let here = c.loop-r in
    none_more at here.r (here.invariant at all) (verdict_none (at here.r) (sym (all here.r (omega arith)) ∙ c.in_default.is))

pub returns : goal.returns
returns c at all =
    let end : c.loop-r.r ≡ c.args.rows = omega arith in
    (rw (← end) (c.loop-r.invariant at all), refl)
