-- `records::reading::offset_of` meets its contract. The loop's invariant: it is at the record that comes after as many as it passed.
-- Assumes nothing.
use mathlib.Core.Path.{◌≡◌, refl, ◌∙◌, ap}
use native.Mathlib.Omega.{arith}
use Rattle.pcap.specs.Records.{offset}
use Rattle.records.proofs.Turns.{goes_on}
use Rattle.records.proofs.reading.offset_of.Goals as goal

pub loop-init : goal.loop-init
unfolding offset
loop-init c = (omega arith, λ laid inside. refl)

pub returns-in-None : goal.returns-in-None
returns-in-None c laid inside =
    let begins = c.loop.invariant.1 laid inside in
    absurd (c.in-None.ensures.record_end laid (goes_on c.args.capture.now c.args.k c.loop.counter c.loop.at begins c.loop-test.true inside).0)

pub loop-preserved : goal.loop-preserved
loop-preserved c = (
  omega (arith, c.in-Some.ensures.inside),
  λ laid inside.
      let begins = c.loop.invariant.1 laid inside in
      (c.in-Some.ensures.record_end laid).1 ∙ (goes_on c.args.capture.now c.args.k c.loop.counter c.loop.at begins c.loop-test.true inside).1,
)

pub returns : goal.returns
returns c laid inside =
    let all : c.loop.counter ≡ c.args.k = omega arith in
    c.loop.invariant.1 laid inside ∙ ap (offset c.args.capture.now) all
