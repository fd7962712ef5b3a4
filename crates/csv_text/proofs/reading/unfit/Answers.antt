-- `unfit` meets its contract, by the tests that lead to each case.
-- Assumes nothing.
use mathlib.Core.Path.{refl, sym, ap, ◌∙◌}
use native.Mathlib.Omega.{arith}
use lib.Seq.{length-take-le}
use Rattle.input.specs.declared.Refusal.{Refusal}
use Rattle.input.specs.Refusals.{nothing}
use Rattle.input.specs.Lent.{table_of}
use Rattle.forms.specs.Outcomes.{rows_found}
use Rattle.csv_text.specs.Kept.{first_rows}
use Rattle.tables.proofs.Judging.{err_is, errs, handed}
use Rattle.csv_text.proofs.Judging.{numbered}
use Rattle.csv_text.proofs.Cases.{unfit_count, unfit_short, unfit_own, few_rows, rows_right, own_refusal}
use Rattle.csv_text.proofs.reading.unfit.Goals as goal

pub returns-in_err-count_refused : goal.returns-in_err-count_refused
unfolding rows_found nothing
returns-in_err-count_refused c =
    let refuses = c.in_err-count_refused.ensures in
    rw (err_is _ _ c.from_residual.ensures.1) (errs _ _ (refuses.1 ∙ sym (unfit_count _ _ _ refl refuses.0)) (numbered _ _ refuses))

pub returns-then-not-room : goal.returns-then-not-room
unfolding rows_found nothing
returns-then-not-room c =
    errs _ _ (c.refusal.ensures ∙ sym (unfit_short _ _ _ refl c.in_ok-count_refused.ensures.0 c.if-not-room.true)) (rw c.refusal.ensures (λ none. omega arith))

pub slice_bounds-identifiers-end : goal.slice_bounds-identifiers-end
slice_bounds-identifiers-end c =
    let args = c.args in
    let few = few_rows args.read.rows c.in_ok-count_refused.ensures.0 in
    sym (length-take-le args.read.rows args.row_identifiers.now (omega (arith, few.1, c.requires.0)))

pub slice_bounds-parents-end : goal.slice_bounds-parents-end
slice_bounds-parents-end c =
    let args = c.args in
    let few = few_rows args.read.rows c.in_ok-count_refused.ensures.0 in
    sym (length-take-le args.read.rows args.row_parents.now (omega (arith, few.1, c.requires.1)))

pub slice_bounds-shares-end : goal.slice_bounds-shares-end
slice_bounds-shares-end c =
    let args = c.args in
    let few = few_rows args.read.rows c.in_ok-count_refused.ensures.0 in
    sym (length-take-le args.read.rows args.row_shares.now (omega (arith, few.1, c.requires.2)))

pub returns-in_err-read_table : goal.returns-in_err-read_table
unfolding first_rows rows_found nothing
returns-in_err-read_table c =
    let args = c.args in
    let words = table_of args.row_identifiers.now args.row_parents.now args.row_shares.now in
    let none = c.in_ok-count_refused.ensures.0 in
    let right = rows_right words args.read.rows none c.requires.0 c.requires.1 c.requires.2 in
    let own = unfit_own (rows_found args.read.rows args.read.kept) words _ refl none c.if-not-room.false in
    let same = own_refusal _ right ∙ sym own in
    handed _ tt c.from_residual-in_err-read_table.result _ c.from_residual-in_err-read_table.ensures.1 (rw same at c.in_err-read_table.ensures)

pub returns : goal.returns
unfolding first_rows rows_found nothing
returns c =
    let args = c.args in
    let words = table_of args.row_identifiers.now args.row_parents.now args.row_shares.now in
    let none = c.in_ok-count_refused.ensures.0 in
    let right = rows_right words args.read.rows none c.requires.0 c.requires.1 c.requires.2 in
    let own = unfit_own (rows_found args.read.rows args.read.kept) words _ refl none c.if-not-room.false in
    let same = own_refusal _ right ∙ sym own in
    (ap (λ (r : Refusal). r.number) (sym same) ∙ c.in_ok-read_table.ensures.0, refl)
