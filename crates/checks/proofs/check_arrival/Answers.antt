-- `checks::check_arrival` meets its contract: the row that is found is that of the class.
-- Assumes nothing.
use Rattle.checks.proofs.Meeting.{class_found}
use Rattle.checks.proofs.check_arrival.Goals as goal

pub returns : goal.returns
returns c tree word idle known =
    let a = c.args in
    let row = c.row_of in
    c.check_packet.ensures tree word a.class idle
    (class_found tree a.identifiers.now a.senders.now known a.class row.result (row.ensures.0 known.apart))
