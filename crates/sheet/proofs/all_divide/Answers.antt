-- `sheet::all_divide` meets its contract: the shares that are left, from where the loop stands, say what all of them say.
-- Assumes nothing.
use Prim.Native.Nat.{ℕ, zero, suc, ◌+◌, ◌%◌, ◌-◌, ◌<◌}
use mathlib.Core.Path.{◌≡◌, refl, sym, ◌∙◌}
use mathlib.Core.Bool.{true, false}
use mathlib.Core.List.{List}
use native.Mathlib.Omega.{arith}
use lib.Dec.{eqb}
use lib.ListN.{get_or}
use Rattle.input.specs.Limits.{scale}
use Rattle.sheet.specs.Paper.{dividing}
use Rattle.sheet.proofs.all_divide.Goals as goal

-- one share that does not divide decides, and one that does leaves it to the others
stops :
    (left : ℕ) (parents shares : List ℕ) (at : ℕ) → 0 < left → eqb (scale % get_or shares at 0) 0 ≡ false → dividing left parents shares at ≡ false
unfolding dividing
stops zero parents shares at some fails = absurd (omega arith)
stops (suc n) parents shares at some fails = rw fails refl

goes_on :
    (left rest : ℕ) (parents shares : List ℕ) (at : ℕ) → rest + 1 ≡ left → eqb (scale % get_or shares at 0) 0 ≡ true
    → dividing rest parents shares (get_or parents at 0) ≡ dividing left parents shares at
unfolding dividing
goes_on zero rest parents shares at more passes = absurd (omega arith)
goes_on (suc n) rest parents shares at more passes = let one : rest ≡ n = omega arith in rw (passes, one) refl

pub returns-then-not-divides : goal.returns-then-not-divides
returns-then-not-divides c =
    let at = c.loop in
    let fails = sym c.divides.ensures ∙ c.if-not-divides.true in
    sym (stops _ _ _ _ (omega (arith, c.loop-test.true)) (rw c.word.ensures at fails)) ∙ at.invariant

pub loop-preserved : goal.loop-preserved
loop-preserved c =
    let at = c.loop in
    let passes = sym c.divides.ensures ∙ c.if-not-divides.false in
    rw c.word-here.ensures
    (goes_on _ _ _ _ _ (omega (arith, c.loop-test.true)) (rw c.word.ensures at passes) ∙ at.invariant)

pub returns : goal.returns
unfolding dividing
returns c =
    let at = c.loop in
    let end : c.args.steps - at.counter ≡ 0 = omega arith in
    rw end at at.invariant
