-- `counting::count_records` meets its contract. The loop's invariant: the records of the places passed are kept, as many packets as are
-- counted arrived at them, and the other words are as they were.
-- Assumes nothing.
use Prim.Native.Nat.{ℕ, ◌≤◌}
use mathlib.Core.Path.{◌≡◌}
use mathlib.Core.List.{List}
use lib.ListN.{length, get_or}
use Rattle.input.specs.Lent.{events_of}
use Rattle.pcap.specs.Printed.{record_of}
use Rattle.timetable.proofs.Arrivals.{Below}
use Rattle.timetable.proofs.counting.count_records.Given as goal

abbrev pub invariant-loop-i : goal.invariant-loop-i
invariant-loop-i l = record {
  few : l.arrived ≤ l.i;
  room : length l.records ≡ length l.initial.records;
  kept : Below l.classes l.records l.i;
  counted : (lengths : List ℕ) → l.arrived ≡ record_of (events_of l.classes lengths) l.i;
  rest : (j : ℕ) → l.i ≤ j → get_or l.records j 0 ≡ get_or l.initial.records j 0;
}
