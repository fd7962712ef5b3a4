-- `list` meets its contract. The loop's invariant: the arrays are those of the box after the events so far, which are the list's first.
-- Assumes nothing.
use mathlib.Core.Path.{refl}
use native.Mathlib.Omega.{arith}
use lib.ListN.{length}
use Rattle.input.specs.Classes.{Tree}
use Rattle.arrays.specs.Arrays.{tree_in}
use Rattle.pcap.specs.Lists.{Arrivals, arrivals_with}
use Rattle.tables.proofs.Judging.{err_is}
use Rattle.listing.proofs.Ends.{outset, refused_at, refused_none}
use Rattle.listing.proofs.list.Goals as goal

pub loop-i-init : goal.loop-i-init
loop-i-init g c =
    let tree : Tree = tree_in (length c.args.identifiers.now) c.args.identifiers.now c.args.reading.now.tree in
    let arrivals : Arrivals = arrivals_with c.args.stamps.now c.args.packet_classes.now c.args.packet_lengths.now in (
      refl,
      refl,
      c.no_words-working.ensures.1,
      c.no_words-order.ensures.1,
      outset _ tree arrivals c.args.rate _ _ _ _ _ _ refl c.no_words-working.ensures.0 (c.open-finding.ensures _ _) c.zeros-rows.ensures c.zeros-counts.ensures,
    )

pub returns-in_err-turn : goal.returns-in_err-turn
returns-in_err-turn g c =
    let tree : Tree = tree_in (length c.args.identifiers.now) c.args.identifiers.now c.args.reading.now.tree in
    let arrivals : Arrivals = arrivals_with c.args.stamps.now c.args.packet_classes.now c.args.packet_lengths.now in
    let at = c.loop-i in
    rw (err_is _ _ c.from_residual.ensures.1)
    (refused_at tree arrivals c.args.rate at.i c.loop-i-test.true at.invariant.4.fine _ c.in_err-turn.ensures)

pub returns : goal.returns
returns g c =
    let tree : Tree = tree_in (length c.args.identifiers.now) c.args.identifiers.now c.args.reading.now.tree in
    let arrivals : Arrivals = arrivals_with c.args.stamps.now c.args.packet_classes.now c.args.packet_lengths.now in
    let at = c.loop-i in
    let reached = at.invariant.4 in
    refused_none tree arrivals c.args.rate at.i (omega (arith, c.loop-i-test.false)) reached.fine _ _ reached.classes_are reached.lengths_are
