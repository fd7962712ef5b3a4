-- `records::headers::layout_of` meets its contract.
-- Assumes nothing.
use Rattle.pcap.specs.Headers.{layout_of}
use Rattle.records.proofs.headers.layout_of.Goals as goal

pub returns : goal.returns
unfolding layout_of
returns c = rw (← c.magic-big.ensures, ← c.word.ensures)
