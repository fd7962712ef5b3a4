-- `put_heading` meets its contract: the heading, its end.
-- Assumes nothing.
use Rattle.output.specs.Quoted.{bytes_of}
use Rattle.output.proofs.Pages.{then}
use Rattle.pcap.specs.Printed.{packet_heading}
use Rattle.timetable.proofs.lent.put_heading.Goals as goal

pub returns : goal.returns
unfolding packet_heading bytes_of
returns c = then _ _ _ c.put_text-used.ensures c.put_end.ensures
