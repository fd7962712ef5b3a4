-- `take_event` meets its contract: the event that comes next is refused as the rules say, or leads one place further.
-- Assumes nothing.
use Prim.Native.Nat.{suc}
use mathlib.Core.Path.{sym}
use native.Mathlib.Omega.{arith}
use lib.ListN.{length}
use Rattle.input.specs.Classes.{Tree}
use Rattle.input.specs.Events.{Events}
use Rattle.arrays.specs.Arrays.{tree_in}
use Rattle.tables.proofs.Judging.{err_is}
use Rattle.pcap.specs.Lists.{Arrivals, arrivals_with, progress, listed}
use Rattle.listing.specs.Next.{NextIs}
use Rattle.listing.proofs.Turning.{comes_as, gone_as, idle_is, few_arrived, moment_low, lent_list, refuses_next, comes, line_length, goes_on}
use Rattle.listing.proofs.take_event.Goals as goal

pub returns-in_err-row : goal.returns-in_err-row
returns-in_err-row g c =
    let tree : Tree = tree_in (length c.args.identifiers.now) c.args.identifiers.now c.args.reading.now.tree in
    let arrivals : Arrivals = arrivals_with c.args.stamps.now c.args.packet_classes.now c.args.packet_lengths.now in
    let keeps = g.met.F.Finding.keeps c.args.finding.now in
    let grounded = c.requires.grounded in
    let stamped = c.requires.stamped in
    let roomy = c.requires.roomy in
    let reached = c.requires.reached in
    let next_is : NextIs c.args.stamps.now c.args.packet_classes.now c.args.packet_lengths.now (progress tree arrivals c.args.rate c.args.i) c.next_event-next.result =
    c.next_event-next.ensures _ (sym reached.arrived_are) (sym reached.due_is) (idle_is keeps grounded stamped roomy reached) in
    let met = let h = rw c.decode.ensures at c.in_err-row.ensures tree grounded.known in h in
    rw (err_is _ _ c.from_residual.ensures.1) (refuses_next keeps grounded stamped roomy reached next_is _ met)

pub step-sent-requires : goal.step-sent-requires
step-sent-requires g c =
    let tree : Tree = tree_in (length c.args.identifiers.now) c.args.identifiers.now c.args.reading.now.tree in
    let arrivals : Arrivals = arrivals_with c.args.stamps.now c.args.packet_classes.now c.args.packet_lengths.now in
    let keeps = g.met.F.Finding.keeps c.args.finding.now in
    let grounded = c.requires.grounded in
    let stamped = c.requires.stamped in
    let roomy = c.requires.roomy in
    let reached = c.requires.reached in
    let next_is : NextIs c.args.stamps.now c.args.packet_classes.now c.args.packet_lengths.now (progress tree arrivals c.args.rate c.args.i) c.next_event-next.result =
    c.next_event-next.ensures _ (sym reached.arrived_are) (sym reached.due_is) (idle_is keeps grounded stamped roomy reached) in
    let list : Events = listed tree arrivals c.args.rate (suc c.args.i) in
    let met = let h = rw c.decode.ensures at c.in_ok-row.ensures tree grounded.known in h in
    let same = lent_list keeps grounded stamped roomy reached next_is in
    let coming = comes_as (sym same) (comes keeps grounded stamped roomy reached next_is met) in
    (_, c.args.identifiers.now, list.classes, coming)

pub arrived_after-requires : goal.arrived_after-requires
arrived_after-requires g c =
    let keeps = g.met.F.Finding.keeps c.args.finding.now in
    few_arrived keeps c.requires.grounded c.requires.stamped c.requires.roomy c.requires.reached

pub due_after-requires : goal.due_after-requires
due_after-requires g c =
    let tree : Tree = tree_in (length c.args.identifiers.now) c.args.identifiers.now c.args.reading.now.tree in
    let arrivals : Arrivals = arrivals_with c.args.stamps.now c.args.packet_classes.now c.args.packet_lengths.now in
    let keeps = g.met.F.Finding.keeps c.args.finding.now in
    let grounded = c.requires.grounded in
    let stamped = c.requires.stamped in
    let roomy = c.requires.roomy in
    let reached = c.requires.reached in
    let next_is : NextIs c.args.stamps.now c.args.packet_classes.now c.args.packet_lengths.now (progress tree arrivals c.args.rate c.args.i) c.next_event-next.result =
    c.next_event-next.ensures _ (sym reached.arrived_are) (sym reached.due_is) (idle_is keeps grounded stamped roomy reached) in
    let list : Events = listed tree arrivals c.args.rate (suc c.args.i) in
    let met = let h = rw c.decode.ensures at c.in_ok-row.ensures tree grounded.known in h in
    let same = lent_list keeps grounded stamped roomy reached next_is in
    let coming = comes_as (sym same) (comes keeps grounded stamped roomy reached next_is met) in
    let gone = gone_as same (c.step-sent.ensures _ c.args.identifiers.now list.classes coming) in
    (omega (arith, moment_low keeps grounded stamped roomy reached next_is, roomy.events_room), line_length keeps grounded stamped roomy reached next_is met gone)

pub returns : goal.returns
returns g c =
    let tree : Tree = tree_in (length c.args.identifiers.now) c.args.identifiers.now c.args.reading.now.tree in
    let arrivals : Arrivals = arrivals_with c.args.stamps.now c.args.packet_classes.now c.args.packet_lengths.now in
    let keeps = g.met.F.Finding.keeps c.args.finding.now in
    let grounded = c.requires.grounded in
    let stamped = c.requires.stamped in
    let roomy = c.requires.roomy in
    let reached = c.requires.reached in
    let next_is : NextIs c.args.stamps.now c.args.packet_classes.now c.args.packet_lengths.now (progress tree arrivals c.args.rate c.args.i) c.next_event-next.result =
    c.next_event-next.ensures _ (sym reached.arrived_are) (sym reached.due_is) (idle_is keeps grounded stamped roomy reached) in
    let list : Events = listed tree arrivals c.args.rate (suc c.args.i) in
    let met = let h = rw c.decode.ensures at c.in_ok-row.ensures tree grounded.known in h in
    let same = lent_list keeps grounded stamped roomy reached next_is in
    let coming = comes_as (sym same) (comes keeps grounded stamped roomy reached next_is met) in
    let gone = gone_as same (c.step-sent.ensures _ c.args.identifiers.now list.classes coming) in
    goes_on keeps grounded stamped roomy reached next_is met gone c.arrived_after.ensures c.due_after.ensures
