-- `tables::earlier` meets its contract: the first of those rows, or else r.
-- Assumes nothing.
use mathlib.Core.Path.{sym}
use lib.ListN.{take}
use lib.Seq.{length-take-le}
use Rattle.input.specs.Classes.{earlier}
use Rattle.tables.proofs.Places.{found_or}
use Rattle.tables.proofs.earlier.Goals as goal

pub returns : goal.returns
unfolding earlier
returns c =
    let a = c.args in
    let found = found_or (take a.r a.identifiers.now) a.identifier a.r c.row_of.result (sym (length-take-le a.r a.identifiers.now c.requires)) c.row_of.ensures in
    rw c.unwrap_or.ensures (λ table same. rw same found.0, found.1)
