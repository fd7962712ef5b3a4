-- `met` meets its contract.
-- Assumes nothing.
use Rattle.soundness.specs.Bits.{met}
use Rattle.soundness.proofs.seen.met.Goals as goal

pub returns : goal.returns
unfolding met
returns c = rw (← c.wide.ensures.0) c.has_bit.ensures
