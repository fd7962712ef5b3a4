-- `sending` meets its contract: a quotient rounded up is no more than what was divided.
-- Assumes nothing.
use Rattle.pcap.specs.Lists.{sending}
use Rattle.input.proofs.Charges.{rounded_most}
use Rattle.listing.proofs.next.sending.Goals as goal

pub returns : goal.returns
unfolding sending
returns c = (c.rounded_up.ensures, rw c.rounded_up.ensures (rounded_most _ _))
