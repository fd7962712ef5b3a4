-- `counting::count_records` meets its contract. The loop's invariant: the records of the places passed are kept, as many packets as are
-- counted arrived at them, and the other words are as they were.
-- Assumes nothing.
use mathlib.Core.Path.{◌≡◌, refl}
use native.Mathlib.Numerals.{add-one}
use native.Mathlib.Omega.{arith}
use lib.ListN.{length, length-set}
use Rattle.pcap.specs.Printed.{record_of}
use Rattle.timetable.proofs.Arrivals.{kept_at, rest_at, one_more}
use Rattle.timetable.proofs.counting.count_records.Goals as goal

pub loop-i-init : goal.loop-i-init
unfolding record_of
loop-i-init c = record {
  few = omega arith;
  room = refl;
  kept = λ lengths j less. absurd (omega arith);
  counted = λ lengths. refl;
  rest = λ j more. refl;
}

pub loop-i-preserved : goal.loop-i-preserved
loop-i-preserved c =
    let classes = c.args.classes.now in
    let at = c.loop-i in
    record {
      few = omega (arith, c.arrived_after-arrived.ensures.most);
      room = simp length-set at.invariant.room;
      kept = λ lengths j less. kept_at classes at.records at.i at.arrived (omega arith) at.invariant.counted at.invariant.kept lengths j (omega arith);
      counted = λ lengths. rw add-one (one_more classes at.i at.arrived _ at.invariant.counted c.arrived_after-arrived.ensures.counted lengths);
      rest = λ j more. rest_at at.records c.args.records.now at.i at.arrived at.invariant.rest j (omega arith);
    }

pub returns : goal.returns
returns c =
    let classes = c.args.classes.now in
    let at = c.loop-i in
    let end : at.i ≡ length classes = omega arith in
    let last = kept_at classes at.records at.i at.arrived (omega arith) at.invariant.counted at.invariant.kept in
    record {
      room = simp length-set at.invariant.room;
      recorded = λ lengths j inside. rw end at (last lengths j (omega arith));
      rest = λ j more. rw end at (rest_at at.records c.args.records.now at.i at.arrived at.invariant.rest j (omega arith));
    }
