-- `report_refused` meets its contract: each answer by the tests on its way.
-- Assumes nothing.
use mathlib.Core.Path.{◌≡◌, refl, sym, ap, ◌∙◌}
use native.Mathlib.Omega.{arith}
use borrow.Author.Tests.{lt-ltb, le-ltb}
use Rattle.input.specs.Refusals.{given, nothing}
use Rattle.forms.specs.Outcomes.{results_refused}
use Rattle.input.specs.declared.Refusal.{Refusal}
use Rattle.tables.specs.Answers.{refusal_of}
use Rattle.tables.proofs.Firsts.{or_else_first, or_else_second}
use Rattle.tables.proofs.Judging.{err_is, errs}
use Rattle.csv_text.proofs.Judging.{numbered}
use Rattle.csv_text.proofs.Cases.{few_rows}
use Rattle.csv_text.proofs.writing.report_refused.Goals as goal
use Rattle.csv_text.proofs.writing.report_refused.Goals.{then-report-rows-via-then-report-rows, then-report-rows-via-else-report-rows+then-lags-rows}

pub returns-in_err-count_refused : goal.returns-in_err-count_refused
returns-in_err-count_refused c =
    let refuses = c.in_err-count_refused.ensures in
    rw (err_is _ _ c.from_residual.ensures.1) (errs _ _ (refuses.1 ∙ sym (or_else_first _ _ refuses.0)) (numbered _ _ refuses))

pub overflow_mul-rows : goal.overflow_mul-rows
overflow_mul-rows c = let few = few_rows c.args.rows c.in_ok-count_refused.ensures.0 in omega (arith, few.1)

pub returns-then-report-rows : goal.returns-then-report-rows
unfolding results_refused given
returns-then-report-rows c =
    let args = c.args in
    let refused : results_refused args.rows args.report args.lags ≡ refusal_of 3 0 0
    = elim c.then-report-rows.branch [
      | then-report-rows-via-then-report-rows w ↦ rw (lt-ltb _ _ w.if-report-rows.true)
      | then-report-rows-via-else-report-rows+then-lags-rows w ↦ rw (le-ltb _ _ w.if-report-rows.false, lt-ltb _ _ w.if-lags-rows.true)
    ] in
    errs _ _ (c.refusal.ensures ∙ sym (or_else_second _ _ c.in_ok-count_refused.ensures.0 ∙ refused)) (rw c.refusal.ensures (λ none. omega arith))

pub returns : goal.returns
unfolding results_refused given nothing
returns c =
    let args = c.args in
    let fine : results_refused args.rows args.report args.lags ≡ nothing = rw (le-ltb _ _ c.if-report-rows.false, le-ltb _ _ c.if-lags-rows.false) in
    (ap (λ (r : Refusal). r.number) (or_else_second _ _ c.in_ok-count_refused.ensures.0 ∙ fine), refl)
