-- `replay` meets its contract: what is refused of the capture and of what is lent, or what the replay of its packets leaves.
-- Assumes nothing.
use Prim.Native.Nat.{◌≤◌}
use mathlib.Core.Path.{sym}
use native.Mathlib.Omega.{arith}
use lib.ListN.{length}
use lib.Seq.{length-take-le}
use Rattle.input.specs.Lent.{table_of, events_of}
use Rattle.pcap.specs.Outcomes.{CaptureLent}
use Rattle.captures.specs.Lent.{capture_lent}
use Rattle.tables.proofs.Judging.{err_is}
use Rattle.captures.proofs.Whole.{scan_most, own_refused, refused_captured, found_here, classes_room, lengths_room, packets_pass, packets_run, few_records, stamps_small}
use Rattle.captures.proofs.replay.Goals as goal

pub returns-in_err-scan : goal.returns-in_err-scan
returns-in_err-scan g c =
    let lent : CaptureLent = capture_lent c.args.capture.now c.args.sorting c.args.rate (table_of c.args.identifiers.now c.args.parent_identifiers.now c.args.shares.now)
    (events_of c.args.classes.now c.args.lengths.now) c.args.order.now c.args.report.now c.args.lags.now c.args.working.now in
    let refused = own_refused lent _ c.in_err-scan.ensures in
    rw (err_is c.from_residual.result _ c.from_residual.ensures.1) (record { numbered = refused.0; replayed = refused.1 })

pub first_refused-requires : goal.first_refused-requires
first_refused-requires g c =
    (omega (arith, c.well_formed), omega (arith, scan_most c.args.capture.now c.args.rate c.in_ok-scan.scan c.in_ok-scan.ensures, c.well_formed))

pub returns-in_err-first_refused : goal.returns-in_err-first_refused
returns-in_err-first_refused g c =
    let lent : CaptureLent = capture_lent c.args.capture.now c.args.sorting c.args.rate (table_of c.args.identifiers.now c.args.parent_identifiers.now c.args.shares.now)
    (events_of c.args.classes.now c.args.lengths.now) c.args.order.now c.args.report.now c.args.lags.now c.args.working.now in
    let refused = refused_captured lent c.in_ok-scan.scan c.in_ok-scan.ensures _ c.in_err-first_refused.ensures in
    rw (err_is c.from_residual-in_err-first_refused.result _ c.from_residual-in_err-first_refused.ensures.1) (record { numbered = refused.0; replayed = refused.1 })

pub read-requires : goal.read-requires
read-requires g c =
    let lent : CaptureLent = capture_lent c.args.capture.now c.args.sorting c.args.rate (table_of c.args.identifiers.now c.args.parent_identifiers.now c.args.shares.now)
    (events_of c.args.classes.now c.args.lengths.now) c.args.order.now c.args.report.now c.args.lags.now c.args.working.now in
    let few = few_records lent c.in_ok-scan.scan c.in_ok-scan.ensures c.in_ok-first_refused.ensures in
    record {
      found = found_here lent c.in_ok-scan.scan c.in_ok-scan.ensures;
      columns_room = (omega (arith, few, c.no_stamps-stamps.ensures), omega (arith, few, c.no_packets-packet_classes.ensures), omega (arith, few, c.no_packets-packet_lengths.ensures));
    }

pub slice_bounds-stamps-end : goal.slice_bounds-stamps-end
slice_bounds-stamps-end g c =
    let lent : CaptureLent = capture_lent c.args.capture.now c.args.sorting c.args.rate (table_of c.args.identifiers.now c.args.parent_identifiers.now c.args.shares.now)
    (events_of c.args.classes.now c.args.lengths.now) c.args.order.now c.args.report.now c.args.lags.now c.args.working.now in
    omega (arith, few_records lent c.in_ok-scan.scan c.in_ok-scan.ensures c.in_ok-first_refused.ensures, c.read.auto.stamps, c.no_stamps-stamps.ensures)

pub slice_bounds-replay_packets-end : goal.slice_bounds-replay_packets-end
slice_bounds-replay_packets-end g c =
    let lent : CaptureLent = capture_lent c.args.capture.now c.args.sorting c.args.rate (table_of c.args.identifiers.now c.args.parent_identifiers.now c.args.shares.now)
    (events_of c.args.classes.now c.args.lengths.now) c.args.order.now c.args.report.now c.args.lags.now c.args.working.now in
    sym (length-take-le _ c.read.new.stamps (omega (arith, few_records lent c.in_ok-scan.scan c.in_ok-scan.ensures c.in_ok-first_refused.ensures, c.read.auto.stamps, c.no_stamps-stamps.ensures)))

pub slice_bounds-packet_classes-end : goal.slice_bounds-packet_classes-end
slice_bounds-packet_classes-end g c =
    let lent : CaptureLent = capture_lent c.args.capture.now c.args.sorting c.args.rate (table_of c.args.identifiers.now c.args.parent_identifiers.now c.args.shares.now)
    (events_of c.args.classes.now c.args.lengths.now) c.args.order.now c.args.report.now c.args.lags.now c.args.working.now in
    omega (arith, few_records lent c.in_ok-scan.scan c.in_ok-scan.ensures c.in_ok-first_refused.ensures, c.read.auto.classes, c.no_packets-packet_classes.ensures)

pub slice_bounds-replay_packets-end-2 : goal.slice_bounds-replay_packets-end-2
slice_bounds-replay_packets-end-2 g c =
    let lent : CaptureLent = capture_lent c.args.capture.now c.args.sorting c.args.rate (table_of c.args.identifiers.now c.args.parent_identifiers.now c.args.shares.now)
    (events_of c.args.classes.now c.args.lengths.now) c.args.order.now c.args.report.now c.args.lags.now c.args.working.now in
    sym (length-take-le _ c.read.new.classes (omega (arith, few_records lent c.in_ok-scan.scan c.in_ok-scan.ensures c.in_ok-first_refused.ensures, c.read.auto.classes, c.no_packets-packet_classes.ensures)))

pub slice_bounds-packet_lengths-end : goal.slice_bounds-packet_lengths-end
slice_bounds-packet_lengths-end g c =
    let lent : CaptureLent = capture_lent c.args.capture.now c.args.sorting c.args.rate (table_of c.args.identifiers.now c.args.parent_identifiers.now c.args.shares.now)
    (events_of c.args.classes.now c.args.lengths.now) c.args.order.now c.args.report.now c.args.lags.now c.args.working.now in
    omega (arith, few_records lent c.in_ok-scan.scan c.in_ok-scan.ensures c.in_ok-first_refused.ensures, c.read.auto.lengths, c.no_packets-packet_lengths.ensures)

pub slice_bounds-replay_packets-end-3 : goal.slice_bounds-replay_packets-end-3
slice_bounds-replay_packets-end-3 g c =
    let lent : CaptureLent = capture_lent c.args.capture.now c.args.sorting c.args.rate (table_of c.args.identifiers.now c.args.parent_identifiers.now c.args.shares.now)
    (events_of c.args.classes.now c.args.lengths.now) c.args.order.now c.args.report.now c.args.lags.now c.args.working.now in
    sym (length-take-le _ c.read.new.lengths (omega (arith, few_records lent c.in_ok-scan.scan c.in_ok-scan.ensures c.in_ok-first_refused.ensures, c.read.auto.lengths, c.no_packets-packet_lengths.ensures)))

pub replay_packets-requires : goal.replay_packets-requires
replay_packets-requires g c =
    let lent : CaptureLent = capture_lent c.args.capture.now c.args.sorting c.args.rate (table_of c.args.identifiers.now c.args.parent_identifiers.now c.args.shares.now)
    (events_of c.args.classes.now c.args.lengths.now) c.args.order.now c.args.report.now c.args.lags.now c.args.working.now in
    let scan = c.in_ok-scan.scan in
    let is = c.in_ok-scan.ensures in
    let look = c.in_ok-first_refused.ensures in
    let stamps_long : scan.records ≤ length c.read.new.stamps = omega (arith, few_records lent c.in_ok-scan.scan c.in_ok-scan.ensures c.in_ok-first_refused.ensures, c.read.auto.stamps, c.no_stamps-stamps.ensures) in
    let size = length-take-le scan.records c.read.new.stamps stamps_long in
    record {
      stamped = stamps_small c.args.capture.now c.args.sorting _ _ c.read.ensures scan.records (found_here lent scan is).counted;
      lengths_fine = packets_pass lent scan is look _ _ c.read.ensures;
      classes_room = omega (arith, size, classes_room lent scan is look);
      lengths_room = omega (arith, size, lengths_room lent scan is look);
    }

pub returns : goal.returns
returns g c =
    let lent : CaptureLent = capture_lent c.args.capture.now c.args.sorting c.args.rate (table_of c.args.identifiers.now c.args.parent_identifiers.now c.args.shares.now)
    (events_of c.args.classes.now c.args.lengths.now) c.args.order.now c.args.report.now c.args.lags.now c.args.working.now in
    record {
      numbered = c.replay_packets.ensures.numbered;
      replayed = packets_run lent c.in_ok-scan.scan c.in_ok-scan.ensures c.in_ok-first_refused.ensures _ _ c.read.ensures _ _ _ c.replay_packets.ensures.replayed;
    }
