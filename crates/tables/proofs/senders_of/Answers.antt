-- `tables::senders_of` meets its contract: the rows passed have their entries.
-- Assumes nothing.
use mathlib.Core.Path.{◌≡◌, refl}
use native.Mathlib.Numerals.{add-one}
use native.Mathlib.Omega.{arith}
use Rattle.tables.specs.Answers.{senders_below}
use Rattle.tables.proofs.senders_of.Goals as goal

pub loop-r-init : goal.loop-r-init
unfolding senders_below
loop-r-init c tree e1 e2 = refl

pub loop-r-preserved : goal.loop-r-preserved
unfolding senders_below
loop-r-preserved c tree e1 e2 = rw (add-one, c.loop-r.invariant tree e1 e2, c.sends.ensures tree e1 e2)

pub returns : goal.returns
returns c tree e1 e2 =
    let end : c.loop-r.r ≡ c.args.rows = omega arith in
    rw (← end) (c.loop-r.invariant tree e1 e2)
