-- `senders_of` meets its contract: the rows passed have marked their parents.
-- Assumes nothing.
use mathlib.Core.Path.{◌≡◌, refl, ◌∙◌, sym}
use mathlib.Core.Bool.{false}
use native.Mathlib.Numerals.{add-one}
use native.Mathlib.Omega.{arith}
use lib.ListN.{length-set}
use Rattle.soundness.proofs.Turns.{sends_is, senders_start, senders_turn}
use Rattle.soundness.proofs.tree.senders_of.Goals as goal

pub loop-r-init : goal.loop-r-init
loop-r-init c = (omega arith, refl, λ tree e p inside. senders_start tree p inside)

pub loop-r-preserved : goal.loop-r-preserved
loop-r-preserved c = (
  omega arith,
  length-set c.loop-r.marks c.wide.result false ∙ c.loop-r.invariant.1,
  λ tree e p inside.
      rw (add-one, c.wide.ensures.0, ← e)
      (senders_turn tree c.loop-r.marks c.loop-r.r c.loop-r.invariant.0 c.loop-r.invariant.1 (c.loop-r.invariant.2 tree e) p inside),
)

pub returns : goal.returns
returns c tree e1 e2 r inside =
    let end : c.loop-r.r ≡ c.args.n = omega arith in
    sends_is tree c.loop-r.r r (e1 ∙ sym end) ∙ c.loop-r.invariant.2 tree e2 r (omega arith)
