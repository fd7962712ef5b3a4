-- `of_line` meets its contract: the steps are as many as the deepest row has at most.
-- Assumes nothing.
use Prim.Native.Nat.{ℕ, min}
use mathlib.Core.Path.{◌≡◌, refl, ap, ◌∙◌}
use native.Mathlib.Omega.{arith}
use Rattle.input.specs.Limits.{most_depth}
use Rattle.drawing.specs.Parts.{steps, of_line}
use Rattle.drawing.proofs.Numbers.{whole_fits, whole_above}
use Rattle.drawing.proofs.parts.of_line.Goals as goal

pub pow-requires : goal.pow-requires
pow-requires c = whole_fits c.min-steps.result (omega (arith, c.min-steps.ensures))

pub nonzero_div-result : goal.nonzero_div-result
nonzero_div-result c = omega (arith, c.pow.ensures, whole_above c.min-steps.result)

pub returns : goal.returns
unfolding of_line steps
returns c tree eP eD eS =
    let taken = c.min-steps in
    let same : taken.result ≡ steps tree c.args.row = rw eD (taken.ensures ∙ ap (λ (d : ℕ). min d most_depth) c.word.ensures) in
    rw (c.product-all.ensures.value tree eP eS, c.pow.ensures, same) refl
