-- `sums_refused` meets its contract: the rows passed have their entries.
-- Assumes nothing.
use mathlib.Core.Path.{◌≡◌, refl, ◌∙◌, ap}
use native.Mathlib.Numerals.{add-one}
use native.Mathlib.Omega.{arith}
use Rattle.tables.specs.Answers.{verdicts}
use Rattle.refusals.specs.All.{sum_refusal}
use Rattle.refusals.proofs.sums_refused.Goals as goal

pub loop-p-init : goal.loop-p-init
unfolding verdicts
loop-p-init c tree e1 e2 = refl

pub loop-p-preserved : goal.loop-p-preserved
unfolding verdicts sum_refusal
loop-p-preserved c tree e1 e2 =
    rw (add-one, c.loop-p.invariant tree e1 e2, c.sum_refused.ensures, c.children_share.ensures tree e1 e2) refl

pub returns : goal.returns
returns c tree e1 e2 =
    let end : c.loop-p.p ≡ c.args.rows = omega arith in
    c.loop-p.invariant tree e1 e2 ∙ ap (verdicts (sum_refusal tree c.args.rows)) end
