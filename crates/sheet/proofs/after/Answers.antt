-- `sheet::after` meets its contract: the steps that are left, from where the loop stands, give what all of them give.
-- Assumes nothing.
use Prim.Native.Nat.{ℕ, zero, suc, ◌+◌, ◌-◌}
use mathlib.Core.Path.{◌≡◌, refl, sym, ap, ◌∙◌}
use mathlib.Core.List.{List}
use native.Mathlib.Omega.{arith}
use lib.ListN.{get_or}
use Rattle.sheet.specs.Paper.{Figure, figure, fraction, outgrown, with_ticks, by_share, stepped, climbing, worked}
use Rattle.sheet.specs.Answered.{terms}
use Rattle.sheet.proofs.after.Goals as goal

-- what has outgrown the words stays so
stays : (n : ℕ) (parents shares : List ℕ) (largest more row : ℕ) → climbing n parents shares largest more row outgrown ≡ outgrown
unfolding climbing stepped with_ticks by_share
stays zero parents shares largest more row = refl
stays (suc n) parents shares largest more row = stays n parents shares largest more (get_or parents row 0)

-- one step of those that are left
one_more :
    (left rest : ℕ) (parents shares : List ℕ) (largest more row : ℕ) (from : Figure) → rest + 1 ≡ left
    → climbing rest parents shares largest more (get_or parents row 0) (stepped largest more (get_or shares row 0) from)
    ≡ climbing left parents shares largest more row from
unfolding climbing
one_more zero rest parents shares largest more row from is = absurd (omega arith)
one_more (suc n) rest parents shares largest more row from is = let one : rest ≡ n = omega arith in rw one refl

pub invariant_of-figure : goal.invariant_of-figure
invariant_of-figure c = record { some = c.loop.invariant.0 }

pub loop-init : goal.loop-init
unfolding worked
loop-init c = let all : c.args.steps - 0 ≡ c.args.steps = omega arith in (omega arith, rw all refl)

pub returns-in_err-figure : goal.returns-in_err-figure
returns-in_err-figure c =
    let args = c.args in
    let at = c.loop in
    let from : Figure = figure (fraction at.figure.0 at.figure.1.0) in
    let rest = args.steps - at.counter - 1 in
    let climb : Figure → Figure = climbing rest args.parents.now args.shares.now args.largest args.ticks (get_or args.parents.now at.at 0) in
    let none : outgrown ≡ stepped args.largest args.ticks (get_or args.shares.now at.at 0) from = rw (c.in_err-figure.was, c.word.ensures) at c.step.ensures in
    rw c.from_residual.ensures
    (sym (stays rest args.parents.now args.shares.now args.largest args.ticks (get_or args.parents.now at.at 0)) ∙ ap climb none
    ∙ one_more (args.steps - at.counter) rest args.parents.now args.shares.now args.largest args.ticks at.at from (omega (arith, c.loop-test.true)) ∙ at.invariant.1)

pub loop-preserved : goal.loop-preserved
loop-preserved c =
    let args = c.args in
    let at = c.loop in
    let from : Figure = figure (fraction at.figure.0 at.figure.1.0) in
    let rest = args.steps - (at.counter + 1) in
    let climb : Figure → Figure = climbing rest args.parents.now args.shares.now args.largest args.ticks (get_or args.parents.now at.at 0) in
    let next : figure (terms c.in_ok-figure.figure) ≡ stepped args.largest args.ticks (get_or args.shares.now at.at 0) from = rw (c.in_ok-figure.was, c.word.ensures) at c.step.ensures in (
      c.in_ok-figure.figure.some,
      rw c.word-at.ensures
          (ap climb next
          ∙ one_more (args.steps - at.counter) rest args.parents.now args.shares.now args.largest args.ticks at.at from (omega (arith, c.loop-test.true)) ∙ at.invariant.1),
    )

pub invariant_of-figure-2 : goal.invariant_of-figure-2
invariant_of-figure-2 c = record { some = c.loop.invariant.0 }

pub returns : goal.returns
unfolding climbing
returns c =
    let at = c.loop in
    let end : c.args.steps - at.counter ≡ 0 = omega arith in
    rw end at at.invariant.1
