-- `marginlilac::run_written` meets its contract: what the run left in the arrays, written over the lent bytes.
-- Assumes nothing.
use Prim.Native.Nat.{ℕ, ◌*◌}
use mathlib.Core.Path.{refl, sym}
use native.Mathlib.Omega.{arith}
use lib.ListN.{length-take, length-replicate}
use lib.Seq.{length-take-le}
use lib.IntN.{pos}
use Rattle.std.specs.Prelude.{Ok, Err}
use Rattle.input.specs.Limits.{most_rows, most_events, report_words}
use Rattle.engine.specs.Run.{answer_of}
use Rattle.marginlilac.specs.Exported.{LentBytes, lent_bytes, words_lent}
use Rattle.marginlilac.proofs.Writing.{Fitting, held, run_refused, run_fits, run_done}
use Rattle.marginlilac.proofs.run_written.Goals as goal

-- ── what is lent, and what the run leaves ──

pub run_read-done-requires : goal.run_read-done-requires
run_read-done-requires g c =
    let lent : LentBytes = lent_bytes c.args.identifiers.now c.args.parents.now c.args.shares.now c.args.classes.now c.args.lengths.now c.args.order.now
    c.args.report.now c.args.lags.now c.args.working.now c.args.answer.now in
    held lent c.requires

pub returns-in-Err : goal.returns-in-Err
unfolding words_lent
returns-in-Err g c =
    let lent : LentBytes = lent_bytes c.args.identifiers.now c.args.parents.now c.args.shares.now c.args.classes.now c.args.lengths.now c.args.order.now
    c.args.report.now c.args.lags.now c.args.working.now c.args.answer.now in
    rw (c.write_answer-number.ensures.0, c.write_answer-number.ensures.1, c.in-Err.is)
    (run_refused lent c.requires (answer_of (Err _)) _ _ _ _ c.in-Err.ensures.ran c.in-Err.ensures.numbered)

-- ── as many words as are written are there ──

pub slice_bounds-order_words-end : goal.slice_bounds-order_words-end
unfolding words_lent
slice_bounds-order_words-end g c =
    let lent : LentBytes = lent_bytes c.args.identifiers.now c.args.parents.now c.args.shares.now c.args.classes.now c.args.lengths.now c.args.order.now
    c.args.report.now c.args.lags.now c.args.working.now c.args.answer.now in
    let room : Fitting lent c.in-Ok.sent = run_fits lent c.requires (answer_of (Ok c.in-Ok.sent)) _ _ _ _ c.in-Ok.ensures.ran refl in
    omega (arith, room.order_few, c.wide.ensures.0, c.run_read-done.auto.order, length-replicate {A = ℕ} most_events 0)

pub slice_bounds-write_words-end : goal.slice_bounds-write_words-end
unfolding words_lent
slice_bounds-write_words-end g c =
    let lent : LentBytes = lent_bytes c.args.identifiers.now c.args.parents.now c.args.shares.now c.args.classes.now c.args.lengths.now c.args.order.now
    c.args.report.now c.args.lags.now c.args.working.now c.args.answer.now in
    let room : Fitting lent c.in-Ok.sent = run_fits lent c.requires (answer_of (Ok c.in-Ok.sent)) _ _ _ _ c.in-Ok.ensures.ran refl in
    sym (length-take-le _ c.run_read-done.new.order (omega (arith, room.order_few, c.wide.ensures.0, c.run_read-done.auto.order, length-replicate {A = ℕ} most_events 0)))

pub slice_bounds-report_words-end : goal.slice_bounds-report_words-end
slice_bounds-report_words-end g c =
    let lent : LentBytes = lent_bytes c.args.identifiers.now c.args.parents.now c.args.shares.now c.args.classes.now c.args.lengths.now c.args.order.now
    c.args.report.now c.args.lags.now c.args.working.now c.args.answer.now in
    let few = (held lent c.requires).few_rows in
    omega (arith, c.run_read-done.auto.report, length-replicate {A = ℕ} (report_words * most_rows) 0)

pub slice_bounds-write_words-end-2 : goal.slice_bounds-write_words-end-2
slice_bounds-write_words-end-2 g c =
    let lent : LentBytes = lent_bytes c.args.identifiers.now c.args.parents.now c.args.shares.now c.args.classes.now c.args.lengths.now c.args.order.now
    c.args.report.now c.args.lags.now c.args.working.now c.args.answer.now in
    let few = (held lent c.requires).few_rows in
    sym (length-take-le _ c.run_read-done.new.report (omega (arith, c.run_read-done.auto.report, length-replicate {A = ℕ} (report_words * most_rows) 0)))

pub slice_bounds-lag_words-end : goal.slice_bounds-lag_words-end
slice_bounds-lag_words-end g c =
    let lent : LentBytes = lent_bytes c.args.identifiers.now c.args.parents.now c.args.shares.now c.args.classes.now c.args.lengths.now c.args.order.now
    c.args.report.now c.args.lags.now c.args.working.now c.args.answer.now in
    let few = (held lent c.requires).few_rows in
    omega (arith, c.run_read-done.auto.lags, length-replicate most_rows (pos 0))

pub slice_bounds-write_words-end-3 : goal.slice_bounds-write_words-end-3
slice_bounds-write_words-end-3 g c =
    let lent : LentBytes = lent_bytes c.args.identifiers.now c.args.parents.now c.args.shares.now c.args.classes.now c.args.lengths.now c.args.order.now
    c.args.report.now c.args.lags.now c.args.working.now c.args.answer.now in
    let few = (held lent c.requires).few_rows in
    sym (length-take-le _ c.run_read-done.new.lags (omega (arith, c.run_read-done.auto.lags, length-replicate most_rows (pos 0))))

pub write_words-requires : goal.write_words-requires
unfolding words_lent
write_words-requires g c =
    let lent : LentBytes = lent_bytes c.args.identifiers.now c.args.parents.now c.args.shares.now c.args.classes.now c.args.lengths.now c.args.order.now
    c.args.report.now c.args.lags.now c.args.working.now c.args.answer.now in
    let room : Fitting lent c.in-Ok.sent = run_fits lent c.requires (answer_of (Ok c.in-Ok.sent)) _ _ _ _ c.in-Ok.ensures.ran refl in
    let count = c.wide.ensures.0 in
    simp length-take (omega (arith, room.order_room, count))

pub write_words-requires-2 : goal.write_words-requires-2
unfolding words_lent
write_words-requires-2 g c =
    let lent : LentBytes = lent_bytes c.args.identifiers.now c.args.parents.now c.args.shares.now c.args.classes.now c.args.lengths.now c.args.order.now
    c.args.report.now c.args.lags.now c.args.working.now c.args.answer.now in
    let room : Fitting lent c.in-Ok.sent = run_fits lent c.requires (answer_of (Ok c.in-Ok.sent)) _ _ _ _ c.in-Ok.ensures.ran refl in
    simp length-take (omega (arith, room.report_room))

pub write_words-requires-3 : goal.write_words-requires-3
unfolding words_lent
write_words-requires-3 g c =
    let lent : LentBytes = lent_bytes c.args.identifiers.now c.args.parents.now c.args.shares.now c.args.classes.now c.args.lengths.now c.args.order.now
    c.args.report.now c.args.lags.now c.args.working.now c.args.answer.now in
    let room : Fitting lent c.in-Ok.sent = run_fits lent c.requires (answer_of (Ok c.in-Ok.sent)) _ _ _ _ c.in-Ok.ensures.ran refl in
    simp length-take (omega (arith, room.lags_room))

pub clear-requires : goal.clear-requires
unfolding words_lent
clear-requires g c =
    let lent : LentBytes = lent_bytes c.args.identifiers.now c.args.parents.now c.args.shares.now c.args.classes.now c.args.lengths.now c.args.order.now
    c.args.report.now c.args.lags.now c.args.working.now c.args.answer.now in
    let room : Fitting lent c.in-Ok.sent = run_fits lent c.requires (answer_of (Ok c.in-Ok.sent)) _ _ _ _ c.in-Ok.ensures.ran refl in
    omega (arith, room.working_room)

pub returns : goal.returns
unfolding words_lent
returns g c =
    let lent : LentBytes = lent_bytes c.args.identifiers.now c.args.parents.now c.args.shares.now c.args.classes.now c.args.lengths.now c.args.order.now
    c.args.report.now c.args.lags.now c.args.working.now c.args.answer.now in
    rw (c.write_answer-number.ensures.0, c.write_answer-number.ensures.1, c.in-Ok.is)
    (run_done lent c.requires (answer_of (Ok c.in-Ok.sent)) _ _ _ _ c.in-Ok.ensures.ran refl _ _ _ _
    (rw c.wide.ensures.0 at c.write_words.ensures) c.write_words-2.ensures c.write_words-3.ensures c.clear.ensures)
