-- `live_box::meeting::arrival` meets its contract: what the checks refuse is what the definition refuses.
-- Assumes nothing.
use mathlib.Core.Path.{sym, ◌∙◌}
use Rattle.input.specs.declared.Event.TheVariants.{Arrival}
use Rattle.input.specs.EventRows.{row_for}
use Rattle.rules.specs.Refused.{idle}
use Rattle.tables.proofs.Judging.{handed_number}
use Rattle.live_rules.specs.State.{box_of, live_in}
use Rattle.live_box.proofs.EventOutcome.{few_rows, class_found, arrival_takes, arrival_first, arrival_full, arrival_passed, refused_met, taken_met}
use Rattle.live_box.proofs.meeting.arrival.Goals as goal

pub shared_ref_as_front-row_of : goal.shared_ref_as_front-row_of
shared_ref_as_front-row_of c = few_rows c.args.words.now c.args.state.now c.requires

pub returns-in_err-k : goal.returns-in_err-k
returns-in_err-k c =
    let a = c.args in
    let live = live_in a.words.now in
    let found = class_found a.words.now a.state.now c.requires a.class a.size c.row_of-row.result c.row_of-row.ensures in
    let refused = arrival_first live a.class a.size _ (c.in_err-k.ensures live.tree a.size a.class (idle (box_of live)) found) in
    record {
      numbered = handed_number _ c.from_residual.result _ c.from_residual.ensures.1 refused;
      meets = refused_met a.words.now a.size (Arrival a.class a.size) _ c.from_residual.result c.from_residual.ensures.1 refused;
    }

pub returns-in_err-full_refused : goal.returns-in_err-full_refused
returns-in_err-full_refused c =
    let a = c.args in
    let live = live_in a.words.now in
    let found = class_found a.words.now a.state.now c.requires a.class a.size c.row_of-row.result c.row_of-row.ensures in
    let fine = c.in_ok-k.ensures live.tree a.size a.class (idle (box_of live)) found in
    let handed = c.from_residual-in_err-full_refused in
    let full = c.in_err-full_refused.ensures live a.class a.size (sym c.requires.opened.accepted) (sym c.requires.opened.packets) in
    let refused = arrival_full live a.class a.size fine.0 _ full in
    record {
      numbered = handed_number _ handed.result _ handed.ensures.1 refused;
      meets = refused_met a.words.now a.size (Arrival a.class a.size) _ handed.result handed.ensures.1 refused;
    }

pub take_arrival-requires : goal.take_arrival-requires
unfolding row_for
take_arrival-requires c =
    let a = c.args in
    let live = live_in a.words.now in
    let found = class_found a.words.now a.state.now c.requires a.class a.size c.row_of-row.result c.row_of-row.ensures in
    let fine = c.in_ok-k.ensures live.tree a.size a.class (idle (box_of live)) found in
    let full = c.in_ok-full_refused.ensures live a.class a.size (sym c.requires.opened.accepted) (sym c.requires.opened.packets) in
    record {
      state_room = c.requires.long;
      takes = arrival_takes a.words.now a.state.now c.requires a.class a.size _ fine.1 (arrival_passed live a.class a.size fine.0 full.0);
    }

pub returns : goal.returns
unfolding row_for
returns c =
    let a = c.args in
    let live = live_in a.words.now in
    let found = class_found a.words.now a.state.now c.requires a.class a.size c.row_of-row.result c.row_of-row.ensures in
    let fine = c.in_ok-k.ensures live.tree a.size a.class (idle (box_of live)) found in
    let full = c.in_ok-full_refused.ensures live a.class a.size (sym c.requires.opened.accepted) (sym c.requires.opened.packets) in
    record {
      numbered = tt;
      meets = c.take_arrival.ensures a.class (sym fine.1)
          ∙ sym (taken_met a.words.now a.size (Arrival a.class a.size) (arrival_passed live a.class a.size fine.0 full.0));
    }
