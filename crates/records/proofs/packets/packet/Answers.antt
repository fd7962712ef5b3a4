-- `records::packets::packet` meets its contract: the capture is cut off in the packet, or it is whole.
-- Assumes nothing.
use Rattle.records.proofs.Laid.{packet_cut, packet_there}
use Rattle.records.proofs.packets.packet.Goals as goal

pub returns-then-capture-start : goal.returns-then-capture-start
returns-then-capture-start c laid =
    let a = c.args in
    packet_cut a.capture.now a.at c.included-bytes.result (c.included-bytes.ensures.1 laid) c.if-capture-start.true

pub returns : goal.returns
returns c laid =
    let a = c.args in
    packet_there a.capture.now a.at c.included-bytes.result (c.included-bytes.ensures.1 laid)
