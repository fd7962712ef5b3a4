-- `engine::run` meets its contract: the check's refusals are the rules', and what is served of an accepted input is the rules' outcome.
-- Assumes nothing.
use mathlib.Core.Path.{refl}
use native.Mathlib.Omega.{arith}
use Rattle.input.specs.EventRows.{no_rows}
use Rattle.rules.specs.Outcome.{room_of}
use Rattle.tables.proofs.Judging.{handed_number}
use Rattle.engine.proofs.Ending.{refused_left, fit_is, sending_is, rows_for_is, roomy_is, served_left}
use Rattle.engine.proofs.run.Goals as goal

pub returns-in_err-reading : goal.returns-in_err-reading
unfolding room_of
returns-in_err-reading g c =
    record {
      numbered = handed_number _ c.from_residual.result _ c.from_residual.ensures.1 c.in_err-reading.ensures;
      ran = refused_left _ c.from_residual.result _ c.from_residual.ensures.1 c.in_err-reading.ensures;
    }

pub check_into-requires : goal.check_into-requires
unfolding no_rows
check_into-requires g c = refl

pub serve-sent-requires : goal.serve-sent-requires
serve-sent-requires g c =
    let (passed, is) = c.in_ok-reading.ensures in
    let room = roomy_is _ _ _ passed is in
    record {
      fit = fit_is _ _ _ passed is;
      senders_told = sending_is _ _ _ passed is;
      event_rows_told = rows_for_is _ _ _ passed is;
      order_room = room.order_room;
      working_room = room.working_room;
      report_room = room.report_room;
      lags_room = room.lags_room;
    }

pub clear-requires : goal.clear-requires
clear-requires g c =
    let (passed, is) = c.in_ok-reading.ensures in
    omega (arith, (roomy_is _ _ _ passed is).working_room, c.serve-sent.auto.working)

pub returns : goal.returns
unfolding room_of
returns g c =
    let (passed, is) = c.in_ok-reading.ensures in
    record { numbered = tt; ran = served_left _ passed is c.serve-sent.ensures c.clear.ensures }
