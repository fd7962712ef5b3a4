-- `packet_length` meets its contract, by its test.
-- Assumes nothing.
use borrow.Author.Tests.{eq-eqb, ne_eqb}
use Rattle.pcap.specs.Lists.{packet_length}
use Rattle.listing.proofs.next.packet_length.Goals as goal

pub returns-then-class-eq0 : goal.returns-then-class-eq0
unfolding packet_length
returns-then-class-eq0 c = rw (eq-eqb _ _ c.if-class-eq0.true)

pub returns-else-class-eq0 : goal.returns-else-class-eq0
unfolding packet_length
returns-else-class-eq0 c = rw (ne_eqb _ _ c.if-class-eq0.false)
