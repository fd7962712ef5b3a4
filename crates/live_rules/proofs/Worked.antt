-- The worked days come out of the definitions, and a full box refuses: proved by computing.
-- Assumes nothing.
use Prim.Native.Nat.{ℕ}
use mathlib.Core.Path.{refl}
use mathlib.Core.List.{List}
use Rattle.rules.proofs.Computing
use Rattle.live_rules.specs.Layout
use Rattle.live_rules.specs.State
use Rattle.live_rules.specs.Soundness
use Rattle.live_rules.specs.Taking
use Rattle.live_rules.specs.Outcomes
use Rattle.live_rules.specs.Worked

-- the live box with all that it is made of: a proof that names this on its `unfolding` line can compute it
unfoldable pub computing : List ℕ → ℕ → ℕ → Outcomes.Left
unfolding Computing.computing Layout.words_at Layout.rows_at
    State.queue State.queues State.box_of State.gone State.events State.fresh_live State.packets_at State.tree_in State.rows_in State.live_with
    State.live_in State.rows_stored State.tree_stored State.tags_stored State.heads_stored State.counts_stored State.packets_stored State.stored
    Soundness.all Soundness.any Soundness.children_sum Soundness.named Soundness.root_sound Soundness.class_sound Soundness.tree_sound
    Soundness.packet_sound Soundness.packets_sound Soundness.in_order Soundness.headed Soundness.first_headed Soundness.sender_sound
    Soundness.took_child Soundness.inner_sound Soundness.holding_sound Soundness.tags_sound Soundness.level_most Soundness.untaken
    Soundness.sizes_sound Soundness.counts_sound Soundness.row_sound Soundness.few Soundness.sound
    Taking.full_refused Taking.event_refused Taking.box_after Taking.without Taking.packets_after Taking.accepted_after Taking.took
    Outcomes.refusing Outcomes.doing Outcomes.state_refused Outcomes.fresh_refused Outcomes.fresh_outcome Outcomes.event_outcome
    Outcomes.report_short Outcomes.report_outcome
computing words class length = Outcomes.event_outcome words class length

pub worked : Worked.ComeOut Worked.days
unfolding computing Worked.of_fresh Worked.of_event Worked.called Worked.sevens Worked.made Worked.as_in_the_run Worked.words_in_use Worked.too_short
    Worked.never_made Worked.damaged Worked.last_packet Worked.days
worked = refl

pub full_up : Worked.FullUp
unfolding computing Worked.held_from Worked.both Worked.holding
full_up = (refl, refl, refl)
