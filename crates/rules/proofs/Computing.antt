-- The run and the promise with all that they are made of: a proof that names `computing` on its `unfolding` line can compute them.
-- Assumes nothing.
use Rattle.input.specs.Shares.{allowed, rounded_up, charge}
use Rattle.input.specs.Classes.{place_of, earlier, parent_of, zeros, with_row, read, tree_of, row_of, child, has_child, sends, children_share}
use Rattle.input.specs.Events.{decode, event}
use Rattle.rules.specs.Box.{fresh, has_head}
use Rattle.rules.specs.Steps
use Rattle.input.specs.Refusals
use Rattle.rules.specs.Refused
use Rattle.rules.specs.Outcome.{Lent, Outcome, outcome, row_report, report_of, lag, lags_of, over, room_of, refusing, doing}
use Rattle.rules.specs.Promise
use Rattle.rules.specs.Worked

unfoldable pub computing : Lent → Outcome
unfolding allowed rounded_up charge place_of earlier parent_of zeros with_row read tree_of row_of child has_child sends children_share
    decode event fresh has_head
    Steps.with_head Steps.with_virtual Steps.charged Steps.next_start Steps.new_head Steps.sooner Steps.lesser Steps.least Steps.waits Steps.eligible
    Steps.raised Steps.pick Steps.takes Steps.chooses Steps.up Steps.on_path Steps.along Steps.arrives Steps.leaves Steps.renews
    Steps.goes_on Steps.sent Steps.arrival Steps.departure Steps.step Steps.after
    Refusals.nothing Refusals.given Refusals.or_else Refusals.first Refusals.first_below Refusals.rows_refused Refusals.events_refused
    Refusals.room_refused Refusals.doubled Refusals.root_refused Refusals.class_refused Refusals.row_refused Refusals.shares_refused
    Refusals.table_refused Refusals.packet_refused Refusals.meeting_refused Refused.idle Refused.event_refused Refused.refused
    outcome row_report report_of lag lags_of over room_of refusing doing
    Promise.path_has Promise.within Promise.for_part Promise.one_finish Promise.one_arrival Promise.finish_count Promise.arrived Promise.largest
    Promise.packets_for Promise.bytes_for Promise.line_bytes Promise.finished Promise.finished_in Promise.holds Promise.step_up Promise.plus_ticks
    Promise.climbed Promise.line_most Promise.ticks_for Promise.no_ticks
    Worked.row Worked.packet Worked.finish Worked.lend Worked.found Worked.halves
computing lent = outcome lent
