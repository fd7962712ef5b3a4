-- `replay_packets` meets its contract: the table's refusal, or the list's, or its run.
-- Assumes nothing.
use Prim.Native.Nat.{◌*◌, ◌≤◌}
use mathlib.Core.Path.{sym}
use native.Mathlib.Omega.{arith}
use lib.ListN.{length}
use lib.Seq.{length-take-le}
use Rattle.input.specs.Classes.{Table, tree_of}
use Rattle.input.specs.Lent.{table_of, room_with}
use Rattle.checks.proofs.Whole.{whole_sized, whole_rows}
use Rattle.pcap.specs.Lists.{Arrivals, arrivals_with, list_of}
use Rattle.captures.proofs.Packets.{few_packets, ground, table_replayed, event_replayed, list_replayed}
use Rattle.tables.proofs.Judging.{err_is}
use Rattle.captures.proofs.Whole.{some_of}
use Rattle.captures.proofs.replay_packets.Goals as goal

pub read_sized-requires : goal.read_sized-requires
read_sized-requires g c =
    let table : Table = table_of c.args.identifiers.now c.args.parent_identifiers.now c.args.shares.now in
    let arrivals : Arrivals = arrivals_with c.args.stamps.now c.args.packet_classes.now c.args.packet_lengths.now in
    let lengths_ok = c.requires.lengths_fine in
    whole_sized table (list_of (tree_of table) arrivals c.args.rate) (room_with (length c.args.order.now) (length c.args.report.now) (length c.args.lags.now) (length c.args.working.now)) lengths_ok

pub returns-in_err-reading : goal.returns-in_err-reading
returns-in_err-reading g c =
    let table : Table = table_of c.args.identifiers.now c.args.parent_identifiers.now c.args.shares.now in
    let arrivals : Arrivals = arrivals_with c.args.stamps.now c.args.packet_classes.now c.args.packet_lengths.now in
    let lengths_ok = c.requires.lengths_fine in
    let refused = c.in_err-reading.ensures in
    rw (err_is c.from_residual.result _ c.from_residual.ensures.1)
    (record { numbered = some_of _ _ refused; replayed = table_replayed table arrivals c.args.rate c.args.order.now c.args.report.now c.args.lags.now c.args.working.now lengths_ok _ refused _ _ })

pub list-requires : goal.list-requires
list-requires g c =
    let table : Table = table_of c.args.identifiers.now c.args.parent_identifiers.now c.args.shares.now in
    let arrivals : Arrivals = arrivals_with c.args.stamps.now c.args.packet_classes.now c.args.packet_lengths.now in
    let lengths_ok = c.requires.lengths_fine in
    let few = few_packets table arrivals c.args.rate c.args.order.now c.args.report.now c.args.lags.now c.args.working.now lengths_ok in
    let read = c.in_ok-reading.ensures in
    record {
      grounded = ground table (whole_rows table (list_of (tree_of table) arrivals c.args.rate) (room_with (length c.args.order.now) (length c.args.report.now) (length c.args.lags.now) (length c.args.working.now)) lengths_ok) c.in_ok-reading.reading read.1 read.0;
      stamped = c.requires.stamped;
      events_few = few;
      classes_room = omega (arith, few, c.no_words-list_classes.ensures.1);
      lengths_room = omega (arith, few, c.no_words-list_lengths.ensures.1);
    }

pub returns-in_err-list : goal.returns-in_err-list
returns-in_err-list g c =
    let table : Table = table_of c.args.identifiers.now c.args.parent_identifiers.now c.args.shares.now in
    let arrivals : Arrivals = arrivals_with c.args.stamps.now c.args.packet_classes.now c.args.packet_lengths.now in
    let lengths_ok = c.requires.lengths_fine in
    let read = c.in_ok-reading.ensures in
    let refused = c.in_err-list.ensures in
    rw (err_is c.from_residual-in_err-list.result _ c.from_residual-in_err-list.ensures.1)
    (record {
      numbered = some_of _ _ refused;
      replayed = event_replayed table arrivals c.args.rate c.args.order.now c.args.report.now c.args.lags.now c.args.working.now lengths_ok c.in_ok-reading.reading read.1 read.0 _ c.list.new.classes c.list.new.lengths refused _ _;
    })

pub overflow_mul-events : goal.overflow_mul-events
overflow_mul-events g c =
    let table : Table = table_of c.args.identifiers.now c.args.parent_identifiers.now c.args.shares.now in
    let arrivals : Arrivals = arrivals_with c.args.stamps.now c.args.packet_classes.now c.args.packet_lengths.now in
    let lengths_ok = c.requires.lengths_fine in
    omega (arith, few_packets table arrivals c.args.rate c.args.order.now c.args.report.now c.args.lags.now c.args.working.now lengths_ok)

pub slice_bounds-list_classes-end : goal.slice_bounds-list_classes-end
slice_bounds-list_classes-end g c =
    let table : Table = table_of c.args.identifiers.now c.args.parent_identifiers.now c.args.shares.now in
    let arrivals : Arrivals = arrivals_with c.args.stamps.now c.args.packet_classes.now c.args.packet_lengths.now in
    let lengths_ok = c.requires.lengths_fine in
    omega (arith, few_packets table arrivals c.args.rate c.args.order.now c.args.report.now c.args.lags.now c.args.working.now lengths_ok, c.list.auto.classes, c.no_words-list_classes.ensures.1)

pub slice_bounds-run_list-end : goal.slice_bounds-run_list-end
slice_bounds-run_list-end g c =
    let table : Table = table_of c.args.identifiers.now c.args.parent_identifiers.now c.args.shares.now in
    let arrivals : Arrivals = arrivals_with c.args.stamps.now c.args.packet_classes.now c.args.packet_lengths.now in
    let lengths_ok = c.requires.lengths_fine in
    sym (length-take-le _ c.list.new.classes (omega (arith, few_packets table arrivals c.args.rate c.args.order.now c.args.report.now c.args.lags.now c.args.working.now lengths_ok, c.list.auto.classes, c.no_words-list_classes.ensures.1)))

pub slice_bounds-list_lengths-end : goal.slice_bounds-list_lengths-end
slice_bounds-list_lengths-end g c =
    let table : Table = table_of c.args.identifiers.now c.args.parent_identifiers.now c.args.shares.now in
    let arrivals : Arrivals = arrivals_with c.args.stamps.now c.args.packet_classes.now c.args.packet_lengths.now in
    let lengths_ok = c.requires.lengths_fine in
    omega (arith, few_packets table arrivals c.args.rate c.args.order.now c.args.report.now c.args.lags.now c.args.working.now lengths_ok, c.list.auto.lengths, c.no_words-list_lengths.ensures.1)

pub slice_bounds-run_list-end-2 : goal.slice_bounds-run_list-end-2
slice_bounds-run_list-end-2 g c =
    let table : Table = table_of c.args.identifiers.now c.args.parent_identifiers.now c.args.shares.now in
    let arrivals : Arrivals = arrivals_with c.args.stamps.now c.args.packet_classes.now c.args.packet_lengths.now in
    let lengths_ok = c.requires.lengths_fine in
    sym (length-take-le _ c.list.new.lengths (omega (arith, few_packets table arrivals c.args.rate c.args.order.now c.args.report.now c.args.lags.now c.args.working.now lengths_ok, c.list.auto.lengths, c.no_words-list_lengths.ensures.1)))

pub run_list-requires : goal.run_list-requires
run_list-requires g c =
    let table : Table = table_of c.args.identifiers.now c.args.parent_identifiers.now c.args.shares.now in
    let arrivals : Arrivals = arrivals_with c.args.stamps.now c.args.packet_classes.now c.args.packet_lengths.now in
    let lengths_ok = c.requires.lengths_fine in
    let few = few_packets table arrivals c.args.rate c.args.order.now c.args.report.now c.args.lags.now c.args.working.now lengths_ok in
    let events = 2 * length c.args.stamps.now in
    let classes_long : events ≤ length c.list.new.classes = omega (arith, few, c.list.auto.classes, c.no_words-list_classes.ensures.1) in
    let lengths_long : events ≤ length c.list.new.lengths = omega (arith, few, c.list.auto.lengths, c.no_words-list_lengths.ensures.1) in
    record {
      classes_room = omega (arith, length-take-le events c.list.new.classes classes_long, c.requires.classes_room);
      lengths_room = omega (arith, length-take-le events c.list.new.lengths lengths_long, c.requires.lengths_room);
    }

pub returns : goal.returns
returns g c =
    let table : Table = table_of c.args.identifiers.now c.args.parent_identifiers.now c.args.shares.now in
    let arrivals : Arrivals = arrivals_with c.args.stamps.now c.args.packet_classes.now c.args.packet_lengths.now in
    let lengths_ok = c.requires.lengths_fine in
    let read = c.in_ok-reading.ensures in
    record {
      numbered = c.run_list.ensures.numbered;
      replayed = list_replayed table arrivals c.args.rate c.args.order.now c.args.report.now c.args.lags.now c.args.working.now lengths_ok c.in_ok-reading.reading read.1 read.0 c.list.new.classes c.list.new.lengths c.in_ok-list.ensures _ _ _ _ _ c.run_list.ensures.replayed;
    }
