-- `put_packets` meets its contract. The loop's invariant: the lines of the packets that remain, put on the page as it is, are all of them put on
-- the page as it was; the same of when the line is free; and that moves by no more than a second for each byte of a packet.
-- Assumes nothing.
use Prim.Native.Nat.{◌+◌, ◌*◌, ◌≤◌, ◌^◌}
use mathlib.Core.Path.{◌≡◌}
use lib.ListN.{drop}
use Rattle.input.specs.Lent.{events_of}
use Rattle.output.specs.Pages.{page_of, with_text}
use Rattle.pcap.specs.Printed.{packet_lines}
use Rattle.timetable.specs.Free.{free_through, most_free}
use Rattle.timetable.proofs.lent.put_packets.Given as goal

abbrev pub invariant-loop-place : goal.invariant-loop-place
invariant-loop-place l =
    let events = events_of l.packets.classes.now l.packets.lengths.now in
    record {
      soon : l.put.free ≤ most_free + l.place-index * 2 ^ 52;
      lines : with_text (page_of l.page l.put.used) (packet_lines l.packets.stamps.now l.packets.rate events l.put.free (drop l.place-index l.order))
          ≡ with_text (page_of l.initial.page l.used) (packet_lines l.packets.stamps.now l.packets.rate events l.free l.order);
      free : free_through l.packets.stamps.now l.packets.rate events l.put.free (drop l.place-index l.order)
          ≡ free_through l.packets.stamps.now l.packets.rate events l.free l.order;
    }
