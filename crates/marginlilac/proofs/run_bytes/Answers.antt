-- `marginlilac::run_bytes` meets its contract: part words, then lengths, then the run.
-- Assumes nothing.
use mathlib.Core.Path.{◌≡◌, ◌∙◌}
use native.Mathlib.Omega.{arith}
use Rattle.marginlilac.specs.Exported.{LentBytes, lent_bytes, spare_of, untouched}
use Rattle.marginlilac.specs.Held.{Bytes}
use Rattle.marginlilac.proofs.Writing.{refused_bytes}
use Rattle.marginlilac.proofs.Exporting.{part_words, part_answer, whole_words, slices, lengths_fine, unfit_is}
use Rattle.marginlilac.proofs.run_bytes.Goals as goal

-- ── what is lent ──

pub returns-then-over-ne0 : goal.returns-then-over-ne0
unfolding untouched
returns-then-over-ne0 g c =
    let lent : LentBytes = lent_bytes c.args.identifiers.now c.args.parents.now c.args.shares.now c.args.classes.now c.args.lengths.now
    c.args.order.now c.args.report.now c.args.lags.now c.args.working.now c.args.answer.now in
    part_words lent (rw c.spare-over.ensures at c.if-over-ne0.true)

pub returns-then-answer-ne16 : goal.returns-then-answer-ne16
unfolding untouched
returns-then-answer-ne16 g c =
    let lent : LentBytes = lent_bytes c.args.identifiers.now c.args.parents.now c.args.shares.now c.args.classes.now c.args.lengths.now
    c.args.order.now c.args.report.now c.args.lags.now c.args.working.now c.args.answer.now in
    part_answer lent (rw c.spare-over.ensures at c.if-over-ne0.false) c.if-answer-ne16.true

pub returns-in-Err : goal.returns-in-Err
returns-in-Err g c =
    let lent : LentBytes = lent_bytes c.args.identifiers.now c.args.parents.now c.args.shares.now c.args.classes.now c.args.lengths.now
    c.args.order.now c.args.report.now c.args.lags.now c.args.working.now c.args.answer.now in
    let bytes : Bytes lent = record {
      order = λ i. omega (arith, c.slice_known-1.given i);
      report = λ i. omega (arith, c.slice_known-2-1.given i);
      lags = λ i. omega (arith, c.slice_known-3-1.given i);
      working = λ i. omega (arith, c.slice_known-4-1.given i);
    } in
    let none_spare : spare_of lent ≡ 0 = rw c.spare-over.ensures at c.if-over-ne0.false in
    rw (c.write_answer.ensures.0, c.write_answer.ensures.1)
    (refused_bytes lent none_spare bytes c.in-Err.refusal (unfit_is lent c.in-Err.refusal (c.in-Err.ensures _ _ (slices lent)))
    ∙ whole_words lent none_spare c.if-answer-ne16.false)

pub run_written-requires : goal.run_written-requires
run_written-requires g c =
    let lent : LentBytes = lent_bytes c.args.identifiers.now c.args.parents.now c.args.shares.now c.args.classes.now c.args.lengths.now
    c.args.order.now c.args.report.now c.args.lags.now c.args.working.now c.args.answer.now in
    let bytes : Bytes lent = record {
      order = λ i. omega (arith, c.slice_known-1.given i);
      report = λ i. omega (arith, c.slice_known-2-1.given i);
      lags = λ i. omega (arith, c.slice_known-3-1.given i);
      working = λ i. omega (arith, c.slice_known-4-1.given i);
    } in
    record {
      bytes = bytes;
      none_spare = rw c.spare-over.ensures at c.if-over-ne0.false;
      four_words = c.if-answer-ne16.false;
      fine = lengths_fine lent (c.in_default.ensures _ _ (slices lent)).0;
    }

pub returns : goal.returns
returns g c =
    let lent : LentBytes = lent_bytes c.args.identifiers.now c.args.parents.now c.args.shares.now c.args.classes.now c.args.lengths.now
    c.args.order.now c.args.report.now c.args.lags.now c.args.working.now c.args.answer.now in
    c.run_written.ensures ∙ whole_words lent (rw c.spare-over.ensures at c.if-over-ne0.false) c.if-answer-ne16.false
