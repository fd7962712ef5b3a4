-- `shares::charge` meets its contract: the scale and a length have 32 bits, so their product fits.
-- Assumes nothing.
use borrow.Author.Rules.{rules}
use Rattle.input.specs.Shares.{charge}
use Rattle.shares.proofs.charge.Goals as goal

pub returns : goal.returns
unfolding charge
returns c = search rules
