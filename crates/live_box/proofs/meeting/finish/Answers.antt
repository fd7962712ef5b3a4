-- `live_box::meeting::finish` meets its contract: what the check refuses is what the definition refuses.
-- Assumes nothing.
use mathlib.Core.Path.{sym, ◌∙◌}
use Rattle.input.specs.declared.Event.TheVariants.{Finish}
use Rattle.tables.proofs.Judging.{handed_number}
use Rattle.live_rules.specs.State.{live_in}
use Rattle.live_box.proofs.EventOutcome.{line_idle, finish_first, finish_passed, finish_takes, refused_met, taken_met}
use Rattle.live_box.proofs.meeting.finish.Goals as goal

pub returns-in_err-check_finish : goal.returns-in_err-check_finish
returns-in_err-check_finish c =
    let a = c.args in
    let live = live_in a.words.now in
    let refused = finish_first live a.word _ (rw (line_idle a.words.now a.state.now c.requires) at (c.in_err-check_finish.ensures live.tree)) in
    record {
      numbered = handed_number _ c.from_residual.result _ c.from_residual.ensures.1 refused;
      meets = refused_met a.words.now a.word Finish _ c.from_residual.result c.from_residual.ensures.1 refused;
    }

pub take_finish-requires : goal.take_finish-requires
take_finish-requires c =
    let a = c.args in
    let live = live_in a.words.now in
    let fine = rw (line_idle a.words.now a.state.now c.requires) at (c.in_ok-check_finish.ensures live.tree) in
    record { state_room = c.requires.long; takes = finish_takes a.words.now a.state.now c.requires a.word (finish_passed live a.word fine.0) }

pub returns : goal.returns
returns c =
    let a = c.args in
    let live = live_in a.words.now in
    let fine = rw (line_idle a.words.now a.state.now c.requires) at (c.in_ok-check_finish.ensures live.tree) in
    record { numbered = tt; meets = c.take_finish.ensures ∙ sym (taken_met a.words.now a.word Finish (finish_passed live a.word fine.0)) }
