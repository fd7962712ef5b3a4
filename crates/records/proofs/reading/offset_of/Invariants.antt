-- `records::reading::offset_of` meets its contract. The loop's invariant: it is at the record that comes after as many as it passed.
-- Assumes nothing.
use Prim.Native.Nat.{◌^◌, ◌≤◌, ◌<◌}
use mathlib.Core.Path.{◌≡◌}
use lib.ListN.{length}
use Rattle.pcap.specs.Headers.{layout_of}
use Rattle.pcap.specs.Records.{offset}
use Rattle.records.proofs.reading.offset_of.Given as goal

abbrev pub invariant-loop : goal.invariant-loop
invariant-loop l = (l.at < 2 ^ 63) × (l.layout ≡ layout_of l.capture → offset l.capture l.k ≤ length l.capture → l.at ≡ offset l.capture l.counter)
