-- `has_bit` meets its contract: a shift and a remainder find a bit.
-- Assumes nothing.
use Rattle.soundness.proofs.Bitwise.{bit_shifted}
use Rattle.soundness.proofs.seen.has_bit.Goals as goal

pub returns : goal.returns
returns c = rw (bit_shifted c.args.word c.args.k)
