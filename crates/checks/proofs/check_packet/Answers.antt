-- `checks::check_packet` meets its contract: the row is that of the class.
-- Assumes nothing.
use Rattle.std.specs.Prelude.{Ok, Err}
use Rattle.input.specs.EventRows.{row_for}
use Rattle.tables.proofs.Judging.{handed}
use Rattle.input.specs.declared.Event.TheVariants.{Arrival}
use Rattle.checks.proofs.Meeting.{met_unknown, met_known}
use Rattle.checks.proofs.check_packet.Goals as goal

pub returns-in_default : goal.returns-in_default
returns-in_default c tree word class idle found =
    let a = c.args in
    let none = let h = rw c.in_default.is at found in h in
    met_unknown tree class a.i word idle a.length c.refusal.result none.row_is c.refusal.ensures

pub returns-in_err-packet_refused : goal.returns-in_err-packet_refused
returns-in_err-packet_refused c tree word class idle found =
    let a = c.args in
    let here = let h = rw c.in-Some.is at found in h in
    handed _ (row_for tree (Arrival class a.length)) c.from_residual.result _ c.from_residual.ensures.1
    (met_known tree class a.i word idle a.length a.senders.now c.in-Some.row here (tt {0}) (Err _) c.in_err-packet_refused.ensures)

pub returns : goal.returns
unfolding row_for
returns c tree word class idle found =
    let a = c.args in
    let here = let h = rw c.in-Some.is at found in h in
    ((met_known tree class a.i word idle a.length a.senders.now c.in-Some.row here (tt {0}) (Ok (tt {0})) c.in_ok-packet_refused.ensures).0, here.row_is.0)
