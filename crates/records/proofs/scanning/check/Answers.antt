-- `records::scanning::check` meets its contract: the file header, then the records.
-- Assumes nothing.
use mathlib.Core.Path.{sym}
use Rattle.pcap.specs.Faults.{capture_refused}
use Rattle.tables.proofs.Judging.{judged_as, handed}
use Rattle.records.proofs.Given.{refuses_as}
use Rattle.records.proofs.Answering.{headed, by_header, by_records}
use Rattle.records.proofs.scanning.check.Goals as goal

pub returns-in_err-header_refused : goal.returns-in_err-header_refused
returns-in_err-header_refused c =
    let refused = c.in_err-header_refused.ensures in
    handed _ _ c.from_residual.result _ c.from_residual.ensures.1
    (refuses_as _ (capture_refused c.args.capture.now c.args.rate) _ (sym (by_header c.args.capture.now c.args.rate refused.0)) refused)

pub layout_of-requires : goal.layout_of-requires
layout_of-requires c = headed c.args.capture.now c.args.rate c.in_ok-header_refused.ensures.0

pub check_records-requires : goal.check_records-requires
check_records-requires c = (headed c.args.capture.now c.args.rate c.in_ok-header_refused.ensures.0, c.layout_of.ensures)

pub returns : goal.returns
returns c = judged_as _ _ _ c.check_records.result (sym (by_records c.args.capture.now c.args.rate c.in_ok-header_refused.ensures.0)) c.check_records.ensures
