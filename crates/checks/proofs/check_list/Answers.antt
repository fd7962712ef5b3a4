-- `checks::check_list` meets its contract: no event passed is refused, and the rows and the counts are those of the events passed.
-- Assumes nothing.
use mathlib.Core.Path.{◌≡◌}
use native.Mathlib.Numerals.{add-one}
use native.Mathlib.Omega.{arith}
use lib.ListN.{length}
use Rattle.input.specs.Events.{Events, event}
use Rattle.input.specs.EventRows.{no_rows, rows_for}
use Rattle.input.specs.Lent.{events_of}
use Rattle.checks.proofs.Meeting.{filled_stop, passed_none, passed_stop, passed_more}
use Rattle.checks.proofs.check_list.Goals as goal

pub loop-i-init : goal.loop-i-init
unfolding no_rows
loop-i-init c =
    (omega arith, omega arith, λ tree known. passed_none tree (events_of c.args.classes.now c.args.lengths.now) _ c.requires.none_filled)

pub returns-in_err-row : goal.returns-in_err-row
unfolding event
returns-in_err-row c tree known =
    let events : Events = events_of c.args.classes.now c.args.lengths.now in
    let at = c.loop-i in
    let met = let h = rw c.decode-event.ensures at c.in_err-row.ensures tree known in h in
    filled_stop _ (rows_for tree events (length c.args.classes.now)) at.rows c.from_residual.result _ c.from_residual.ensures.1
    (passed_stop tree events at.i at.rows at.arrivals at.finishes (at.invariant.2 tree known) (length c.args.classes.now) (omega arith) _ met)

pub overflow_add-arrivals : goal.overflow_add-arrivals
overflow_add-arrivals c = omega (arith, c.one_arrival-arrivals.ensures.1)

pub overflow_add-finishes : goal.overflow_add-finishes
overflow_add-finishes c = omega (arith, c.one_finish-finishes.ensures.1)

pub loop-i-preserved : goal.loop-i-preserved
unfolding event
loop-i-preserved c =
    let events : Events = events_of c.args.classes.now c.args.lengths.now in
    let a = c.args in
    let at = c.loop-i in (
      omega (arith, c.one_arrival-arrivals.ensures.1),
      omega (arith, c.one_finish-finishes.ensures.1),
      λ tree known.
          let met = let h = rw c.decode-event.ensures at c.in_ok-row.ensures tree known in h in
          rw (add-one, c.one_arrival-arrivals.ensures.0, c.one_finish-finishes.ensures.0, c.decode-event.ensures)
          (passed_more tree events at.i at.rows at.arrivals at.finishes (at.invariant.2 tree known) a.identifiers.now a.senders.now known
          c.in_ok-row.row met),
    )

pub returns : goal.returns
returns c tree known =
    let at = c.loop-i in
    let end : at.i ≡ length c.args.classes.now = omega arith in
    let passed = at.invariant.2 tree known in
    (rw (← end) passed.none, rw (← end) passed.placed)
