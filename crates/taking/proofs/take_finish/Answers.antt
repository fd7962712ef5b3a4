-- `taking::take_finish` meets its contract: the rows after the finish are stored, and the line's packet is taken out.
-- Assumes nothing.
use native.Mathlib.Omega.{arith}
use Rattle.input.specs.Classes.{Tree}
use Rattle.rules.specs.Steps.{departure}
use Rattle.live_rules.specs.State.{box_of, events, live_in}
use Rattle.taking.proofs.Coming.{finishes, arrays_read, tree_same, tree_read, moved_to}
use Rattle.taking.proofs.Taken.{held_worded, line_is_some, place_found, line_found, line_held, next_comes, finish_left}
use Rattle.taking.proofs.take_finish.Goals as goal

pub unwrap-at-requires : goal.unwrap-at-requires
unwrap-at-requires c =
    line_is_some c.args.words.now c.requires.state_room c.args.state.now c.requires.takes c.long-name.result c.long-name.ensures.0 c.find_packet.result
    c.find_packet.ensures

pub overflow_add-at : goal.overflow_add-at
overflow_add-at c =
    let a = c.args in
    let takes = c.requires.takes in
    let found = place_found a.words.now c.requires.state_room a.state.now takes c.long-name.result c.unwrap-at.result c.find_packet.result c.find_packet.ensures c.unwrap-at.ensures in
    let held = line_held a.words.now c.requires.state_room a.state.now takes _ c.unwrap-at.result c.long-name.ensures.0 found in
    let few = takes.holds.counted.few_held in
    let packets = takes.opened.packets in
    omega arith

pub next_packet-next-requires : goal.next_packet-next-requires
next_packet-next-requires c = let takes = c.requires.takes in let few = takes.holds.counted.few_held in let packets = takes.opened.packets in record { packets_few = omega arith; state_room = c.requires.state_room; worded = held_worded c.args.words.now c.requires.state_room c.args.state.now takes }

pub finish-sent-requires : goal.finish-sent-requires
finish-sent-requires c =
    let a = c.args in
    let takes = c.requires.takes in
    let found = place_found a.words.now c.requires.state_room a.state.now takes c.long-name.result c.unwrap-at.result c.find_packet.result c.find_packet.ensures c.unwrap-at.ensures in
    let comes =
    next_comes a.words.now c.requires.state_room a.state.now takes _ c.unwrap-at.result c.long-name.ensures.0 found _ c.next_packet-next.result.word
    c.next_packet-next.result.size
    c.wide-class.ensures.0
    c.next_packet-next.ensures.1
    c.next_packet-next.ensures.0 in
    let live = live_in a.words.now in (
      live.tree.identifiers,
      events live,
      box_of live,
      finishes live a.state.now c.next_packet-next.result.word c.next_packet-next.result.size comes,
      arrays_read live a.state.now takes.opened,
    )

pub take_packet-requires : goal.take_packet-requires
take_packet-requires c =
    let a = c.args in
    let takes = c.requires.takes in
    let found = place_found a.words.now c.requires.state_room a.state.now takes c.long-name.result c.unwrap-at.result c.find_packet.result c.find_packet.ensures c.unwrap-at.ensures in
    let held = line_held a.words.now c.requires.state_room a.state.now takes _ c.unwrap-at.result c.long-name.ensures.0 found in
    let few = takes.holds.counted.few_held in
    let packets = takes.opened.packets in
    let long = c.store_rows.ensures.words_len_unchanged in
    record { i_held = held; packets_few = omega arith; state_room = omega (arith, c.requires.state_room) }

pub returns : goal.returns
returns c =
    let a = c.args in
    let takes = c.requires.takes in
    let found = place_found a.words.now c.requires.state_room a.state.now takes c.long-name.result c.unwrap-at.result c.find_packet.result c.find_packet.ensures c.unwrap-at.ensures in
    let comes =
    next_comes a.words.now c.requires.state_room a.state.now takes _ c.unwrap-at.result c.long-name.ensures.0 found _ c.next_packet-next.result.word
    c.next_packet-next.result.size
    c.wide-class.ensures.0
    c.next_packet-next.ensures.1
    c.next_packet-next.ensures.0 in
    let live = live_in a.words.now in
    let moved =
    moved_to live (tree_read live a.state.now) (tree_same live a.state.now takes.opened) (λ (tree : Tree). departure tree (box_of live)) c.finish-sent.result _ _
    (c.finish-sent.ensures.finished live.tree.identifiers (events live) (box_of live)
    (finishes live a.state.now c.next_packet-next.result.word c.next_packet-next.result.size comes)
    (arrays_read live a.state.now takes.opened)) in
    finish_left a.words.now c.requires.state_room a.state.now takes c.finish-sent.result _ _ moved _ _ c.unwrap-at.result
    (line_found a.words.now c.requires.state_room a.state.now takes _ c.unwrap-at.result c.long-name.ensures.0 found)
    c.store_rows.ensures.words_after
    c.take_packet.ensures.state_after
