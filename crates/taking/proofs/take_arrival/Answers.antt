-- `taking::take_arrival` meets its contract: the rows after the arrival and the packet that joined are stored.
-- Assumes nothing.
use Rattle.input.specs.Classes.{Tree}
use Rattle.rules.specs.Steps.{arrival}
use Rattle.live_rules.specs.State.{box_of, live_in}
use Rattle.taking.proofs.Coming.{arrives, arrays_read, tree_same, tree_read, moved_to}
use Rattle.taking.proofs.Taken.{arrival_comes, arrival_left}
use Rattle.taking.proofs.take_arrival.Goals as goal

pub arrive-sent-requires : goal.arrive-sent-requires
arrive-sent-requires c =
    let a = c.args in
    let live = live_in a.words.now in
    let takes = c.requires.takes in (
      live.tree.identifiers,
      box_of live,
      arrives live a.state.now a.k a.size c.next_name-name.result
          (arrival_comes live a.state.now a.k a.size c.next_name-name.result takes c.next_name-name.ensures),
      arrays_read live a.state.now takes.opened,
    )

pub returns : goal.returns
returns c class row =
    let a = c.args in
    let takes = c.requires.takes in
    let live = live_in a.words.now in
    let name = c.next_name-name in
    let comes = arrival_comes live a.state.now a.k a.size name.result takes name.ensures in
    arrival_left a.words.now c.requires.state_room a.state.now a.k a.size name.result takes name.ensures c.arrive-sent.result _ _
    (moved_to live (tree_read live a.state.now) (tree_same live a.state.now takes.opened)
    (λ (tree : Tree). arrival tree name.result a.k a.size (box_of live)) _ _ _
    (c.arrive-sent.ensures.arrived live.tree.identifiers (box_of live) (arrives live a.state.now a.k a.size name.result comes)
    (arrays_read live a.state.now takes.opened)))
    class
    row
    _
    _
    c.store_rows.ensures.words_after
    c.put_packet.ensures.state_after
