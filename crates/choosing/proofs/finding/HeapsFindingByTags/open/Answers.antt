-- `Heaps::open` meets its contract: where nobody waits empty heaps have all who do.
-- Assumes nothing.
use Rattle.filing.proofs.Outset.{none_waits}
use Rattle.heaps.specs.Kept.{no_heaps}
use Rattle.choosing.proofs.finding.HeapsFindingByTags.open.Goals as goal

pub returns : goal.returns
unfolding no_heaps
returns c ids depths shares class_of = rw c.empty.ensures (none_waits _ class_of)
