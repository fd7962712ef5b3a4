-- `State::rows_sound` meets its contract: what is worked out of the state is what the test of its rows asks for.
-- Assumes nothing.
use mathlib.Core.Path.{sym, ◌∙◌}
use Rattle.live_rules.specs.State.{live_in}
use Rattle.state.proofs.Loading.{loaded}
use Rattle.state.proofs.State.rows_sound.Goals as goal

pub returns : goal.returns
returns c =
    let w = c.args.words.now in
    let read = c.requires.was_read in
    let firsts = c.firsts_of-firsts in
    let sums = c.children_sums-sums in
    let marks = c.matches_of-marks in
    c.rows_sound.ensures (live_in w) (loaded w c.args.self.now read firsts.result sums.result marks.result firsts.ensures sums.ensures marks.ensures)
    ∙ sym read.decides
