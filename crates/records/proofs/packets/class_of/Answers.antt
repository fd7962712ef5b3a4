-- `records::packets::class_of` meets its contract: the code point is in the six high bits of the packet's second byte.
-- Assumes nothing.
use Rattle.pcap.specs.Records.{code_point}
use Rattle.records.proofs.packets.class_of.Goals as goal

pub returns : goal.returns
unfolding code_point
returns c = c.class_for.ensures
