-- `records::reading::read` meets its contract. The loop's invariant: the records passed are read, and where the next one begins.
-- Assumes nothing.
use Prim.Native.Nat.{ℕ, ◌+◌, ◌≤◌, ◌<◌}
use mathlib.Core.Path.{◌≡◌, refl, ◌∙◌}
use mathlib.Core.List.{List}
use native.Mathlib.Omega.{arith}
use lib.ListN.{length}
use Rattle.pcap.specs.Headers.{record_bytes}
use Rattle.pcap.specs.Records.{offset, included_at, packet_at}
use Rattle.pcap.specs.Lists.{arrivals_with}
use Rattle.records.proofs.Passing.{counted_whole}
use Rattle.records.proofs.Turns.{begins_next, whole_at, two_bytes, read_none, read_more, read_all}
use Rattle.pcap.specs.declared.Layout.{Layout}
use Rattle.records.specs.Reads.{Found}
use Rattle.records.proofs.reading.read.Goals as goal

-- a record that was counted is there, and its packet
here : (capture : List ℕ) (layout : Layout) (records : ℕ) → Found capture layout records → (k at : ℕ) → k < records → at ≡ offset capture k
    → (at + record_bytes + included_at capture at ≤ length capture) × (1 < length (packet_at capture at))
here capture layout records found k at inside begins =
    let is_whole = let counted = found.counted in counted_whole capture found.fine k (omega arith) in
    (whole_at capture k at begins is_whole, two_bytes capture k at begins is_whole)

pub loop-k-init : goal.loop-k-init
unfolding offset
loop-k-init c = let a = c.args in (refl, read_none a.capture.now a.sorting (arrivals_with a.stamps.now a.classes.now a.lengths.now))

pub read_record-requires : goal.read_record-requires
read_record-requires c =
    let there = here _ _ _ c.requires.found c.loop-k.k c.loop-k.at c.loop-k-test.true c.loop-k.invariant.0 in
    let room = c.requires.columns_room in
    record { in_capture = (c.requires.found.laid, omega (arith, there.0), there.1); columns_room = (omega (arith, room.0), omega (arith, room.1), omega (arith, room.2)) }

pub overflow_add-at : goal.overflow_add-at
overflow_add-at c = omega (arith, (here _ _ _ c.requires.found c.loop-k.k c.loop-k.at c.loop-k-test.true c.loop-k.invariant.0).0)

pub included-requires : goal.included-requires
included-requires c = omega (arith, (here _ _ _ c.requires.found c.loop-k.k c.loop-k.at c.loop-k-test.true c.loop-k.invariant.0).0)

pub overflow_add-at-in-loop-k : goal.overflow_add-at-in-loop-k
overflow_add-at-in-loop-k c = omega (arith, (here _ _ _ c.requires.found c.loop-k.k c.loop-k.at c.loop-k-test.true c.loop-k.invariant.0).0, c.included.ensures.0)

pub loop-k-preserved : goal.loop-k-preserved
loop-k-preserved c =
    let capture = c.args.capture.now in
    let room = c.requires.columns_room in
    let l = c.loop-k in (
      begins_next capture l.k l.at c.included.result l.invariant.0 (c.included.ensures.1 c.requires.found.laid),
      read_more capture c.args.sorting (arrivals_with c.args.stamps.now c.args.classes.now c.args.lengths.now)
          (arrivals_with l.stamps l.classes l.lengths) _ l.k l.at l.invariant.1 l.invariant.0 (omega (arith, room.0))
          (omega (arith, room.1)) (omega (arith, room.2)) (omega (arith, room.0)) c.read_record.ensures.3 c.read_record.ensures.0 c.read_record.ensures.1 c.read_record.ensures.2,
    )

pub returns : goal.returns
returns c =
    let all : c.loop-k.k ≡ c.args.records = omega arith in
    read_all c.args.capture.now c.args.sorting (arrivals_with c.args.stamps.now c.args.classes.now c.args.lengths.now)
    (arrivals_with c.loop-k.stamps c.loop-k.classes c.loop-k.lengths) c.loop-k.k c.loop-k.invariant.1 (all ∙ c.requires.found.counted)
