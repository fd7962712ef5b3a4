-- `records::scanning::check_records` meets its contract. The loop's invariant: the records before this one have passed, and where it begins.
-- Assumes nothing.
use Prim.Native.Nat.{ℕ, ◌+◌, ◌≤◌, ◌<◌}
use mathlib.Core.Path.{◌≡◌, refl, ap}
use mathlib.Core.List.{List}
use native.Mathlib.Numerals.{add-one}
use native.Mathlib.Omega.{arith}
use lib.ListN.{length}
use Rattle.input.specs.declared.Refusal.{Refusal}
use Rattle.input.specs.Refusals.{nothing}
use Rattle.pcap.specs.declared.Layout.{Layout}
use Rattle.pcap.specs.Headers.{record_bytes}
use Rattle.pcap.specs.Records.{offset, record_count}
use Rattle.pcap.specs.Faults.{begun_refused, records_refused}
use Rattle.records.specs.Scans.{stamp_before, Next}
use Rattle.tables.proofs.Judging.{handed}
use Rattle.records.proofs.Given.{refuses_as}
use Rattle.records.proofs.Passing.{offset_least, Whole, whole, passed_none, passed_more, passed_stop, passed_end, passed_count}
use Rattle.records.proofs.Turns.{next_more}
use Rattle.records.proofs.scanning.check_records.Goals as goal

-- where record k begins is inside, and where it is not refused it is whole
begun : (capture : List ℕ) (layout : Layout) (k at last : ℕ) → Next capture layout k at last → at < length capture → offset capture k < length capture
begun capture layout k at last next inside = rw (← next.begins) inside

there : (capture : List ℕ) (layout : Layout) (k at last : ℕ) → Next capture layout k at last → at < length capture → (begun_refused capture k).number ≡ 0
    → Whole capture k × (at + record_bytes ≤ length capture)
there capture layout k at last next inside fine =
    let w = whole capture k (begun capture layout k at last next inside) fine in
    (w, omega (arith, w.there, next.begins))

pub loop-at-init : goal.loop-at-init
unfolding offset stamp_before
loop-at-init c =
    (record { laid = c.requires.1; begins = refl; inside = c.requires.0; before = refl }, passed_none c.args.capture.now)

pub returns-in_err-begun_refused : goal.returns-in_err-begun_refused
returns-in_err-begun_refused c =
    let capture = c.args.capture.now in
    let at = c.loop-at in
    let refused = c.in_err-begun_refused.ensures in
    let inside = begun capture _ _ _ _ at.invariant.0 c.loop-at-test.true in
    handed _ _ c.from_residual.result _ c.from_residual.ensures.1
    (refuses_as _ (records_refused capture) _ (passed_stop capture at.records at.invariant.1 inside refused.0) refused)

pub stamp-last-requires : goal.stamp-last-requires
stamp-last-requires c = (there _ _ _ _ _ c.loop-at.invariant.0 c.loop-at-test.true c.in_ok-begun_refused.ensures.0).1

pub included-requires : goal.included-requires
included-requires c = (there _ _ _ _ _ c.loop-at.invariant.0 c.loop-at-test.true c.in_ok-begun_refused.ensures.0).1

pub overflow_add-at-in-loop-at : goal.overflow_add-at-in-loop-at
overflow_add-at-in-loop-at c = omega (arith, c.included.ensures.0)

pub overflow_add-records : goal.overflow_add-records
overflow_add-records c = let next = c.loop-at.invariant.0 in omega (arith, next.begins, offset_least c.args.capture.now c.loop-at.records)

pub loop-at-preserved : goal.loop-at-preserved
loop-at-preserved c =
    let capture = c.args.capture.now in
    let layout = c.args.layout in
    let at = c.loop-at in
    let next = at.invariant.0 in
    let fine = c.in_ok-begun_refused.ensures.0 in (
      next_more capture layout at.records at.at at.last c.included.result c.stamp-last.result next
          (there _ _ _ _ _ next c.loop-at-test.true fine).0 (c.included.ensures.1 next.laid) (c.stamp-last.ensures.1 next.laid),
      rw (add-one at.records) (passed_more capture at.records at.invariant.1 (begun capture layout _ _ _ next c.loop-at-test.true) fine),
    )

pub returns : goal.returns
unfolding nothing
returns c =
    let capture = c.args.capture.now in
    let at = c.loop-at in
    let next = at.invariant.0 in
    let begins = next.begins in
    let here = next.inside in
    let over = c.loop-at-test.false in
    let inside : offset capture at.records ≤ length capture = omega arith in
    let end : length capture ≤ offset capture at.records = omega arith in
    let counted : record_count capture ≡ at.records = passed_count capture at.records at.invariant.1 inside end in
    let none : records_refused capture ≡ nothing = passed_end capture at.records at.invariant.1 inside end in
    (ap (λ (r : Refusal). r.number) none, rw (next.laid, counted) refl)
