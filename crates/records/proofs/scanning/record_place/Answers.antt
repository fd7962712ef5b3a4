-- `records::scanning::record_place` meets its contract.
-- Assumes nothing.
use Rattle.std.proofs.Common.{rules}
use Rattle.pcap.specs.Faults.{record_place}
use Rattle.records.proofs.scanning.record_place.Goals as goal

pub returns : goal.returns
unfolding record_place
returns c = search rules
