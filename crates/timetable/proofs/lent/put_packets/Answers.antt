-- `put_packets` meets its contract. The loop's invariant: the lines of the packets that remain, put on the page as it is, are all of them put on
-- the page as it was; the same of when the line is free; and that moves by no more than a second for each byte of a packet.
-- Assumes nothing.
use mathlib.Core.Path.{◌≡◌}
use mathlib.Core.List.{[]}
use native.Mathlib.Omega.{arith}
use lib.ListN.{drop, drop_of_length-le}
use Rattle.input.specs.Lent.{events_of}
use Rattle.output.specs.Pages.{page_of, with_text}
use Rattle.pcap.specs.Printed.{packet_lines}
use Rattle.timetable.specs.Free.{free_through}
use Rattle.timetable.proofs.Lines.{lines_turn, free_turn}
use Rattle.timetable.proofs.lent.put_packets.Goals as goal

pub loop-place-preserved : goal.loop-place-preserved
loop-place-preserved c =
    let self = c.args.packets in
    let events = events_of self.classes.now self.lengths.now in
    let order = c.args.order.now in
    let at = c.loop-place in
    record {
      soon = omega (arith, c.put_packet-put.ensures.most, at.invariant.soon);
      lines = lines_turn self.stamps.now self.rate events order at.place-index (omega arith) at.put.free _ (page_of at.page at.put.used) _ _
          c.put_packet-put.ensures.line c.put_packet-put.ensures.free at.invariant.lines;
      free = free_turn self.stamps.now self.rate events order at.place-index (omega arith) at.put.free _ _ c.put_packet-put.ensures.free
          at.invariant.free;
    }

pub returns : goal.returns
unfolding packet_lines free_through with_text
returns c =
    let order = c.args.order.now in
    let none : drop c.loop-place.place-index order ≡ [] = drop_of_length-le order {i = c.loop-place.place-index} (omega arith) in
    record { lines = rw none at c.loop-place.invariant.lines; free = rw none at c.loop-place.invariant.free }
