-- `records::reading::read_record` meets its contract: one store to each slice.
-- Assumes nothing.
use mathlib.Core.Path.{refl}
use Rattle.records.proofs.reading.read_record.Goals as goal

pub class_of-requires : goal.class_of-requires
class_of-requires c =
    rw (c.packet.ensures c.requires.in_capture.0) c.requires.in_capture.2

pub returns : goal.returns
returns c =
    let laid = c.requires.in_capture.0 in (
      rw (c.stamp.ensures.1 laid) refl,
      rw (c.class_of.ensures, c.packet.ensures laid) refl,
      rw (c.original.ensures laid) refl,
      rw (← c.stamp.ensures.1 laid) c.stamp.ensures.0,
    )
