-- `state::counts::counts_in` meets its contract: the three words, and the test of them.
-- Assumes nothing.
use mathlib.Core.Path.{sym, ◌∙◌}
use lib.ListN.{get_or}
use Rattle.live_rules.proofs.Packets.{packets_length}
use Rattle.live_rules.specs.Soundness.{few}
use Rattle.live_rules.specs.State.{tree_in, live_with, live_in}
use Rattle.live_rules.specs.Layout.{held_at}
use Rattle.state.specs.Reading.{counts_of}
use Rattle.state.proofs.counts.counts_in.Goals as goal

pub returns-then-are_few : goal.returns-then-are_few
unfolding counts_of few live_in live_with tree_in
returns-then-are_few c =
    let words = c.args.words.now in (
      rw (packets_length (get_or words held_at 0) words, ← c.count-rows.ensures, ← c.count-packets.ensures) (sym c.are_few.ensures ∙ c.if-are_few.true),
      rw (c.count-rows.ensures, c.count-packets.ensures),
    )

pub returns : goal.returns
unfolding few live_in live_with tree_in
returns c =
    let words = c.args.words.now in
    rw (packets_length (get_or words held_at 0) words, ← c.count-rows.ensures, ← c.count-packets.ensures) (sym c.are_few.ensures ∙ c.if-are_few.false)
