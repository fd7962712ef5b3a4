-- `records::scanning::check_records` meets its contract. The loop's invariant: the records before this one have passed, and where it begins.
-- Assumes nothing.
use Prim.Native.Nat.{◌-◌}
use lib.ListN.{length}
use Rattle.records.specs.Scans.{Next}
use Rattle.records.proofs.Passing.{Passed}
use Rattle.records.proofs.scanning.check_records.Given as goal

abbrev pub invariant-loop-at : goal.invariant-loop-at
invariant-loop-at l = Next l.capture l.layout l.records l.at l.last × Passed l.capture l.records

abbrev pub decreases-loop-at : goal.decreases-loop-at
decreases-loop-at l = length l.capture - l.at
