-- `records::reading::read` meets its contract. The loop's invariant: the records passed are read, and where the next one begins.
-- Assumes nothing.
use mathlib.Core.Path.{◌≡◌}
use Rattle.pcap.specs.Records.{offset}
use Rattle.pcap.specs.Lists.{arrivals_with}
use Rattle.records.proofs.Turns.{ReadTo}
use Rattle.records.proofs.reading.read.Given as goal

abbrev pub invariant-loop-k : goal.invariant-loop-k
invariant-loop-k l =
    (l.at ≡ offset l.capture l.k)
    × ReadTo l.capture l.sorting (arrivals_with l.initial.stamps l.initial.classes l.initial.lengths) (arrivals_with l.stamps l.classes l.lengths) l.k
