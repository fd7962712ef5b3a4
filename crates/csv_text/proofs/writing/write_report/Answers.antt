-- `csv_text::writing::write_report` meets its contract: the page has room for any report, so that what is used of it is the text.
-- Assumes nothing.
use mathlib.Core.Path.{sym, ap}
use native.Mathlib.Omega.{arith}
use lib.ListN.{length}
use Rattle.tables.proofs.Judging.{err_is, handed_number}
use Rattle.csv_text.proofs.Written.{report_unfit, report_fits, report_whole, report_short, report_fine}
use Rattle.csv_text.proofs.writing.write_report.Goals as goal

pub returns-in_err-report_refused : goal.returns-in_err-report_refused
returns-in_err-report_refused c =
    let args = c.args in
    let refuses = c.in_err-report_refused.ensures in
    record {
      numbered = handed_number _ _ _ c.from_residual.ensures.1 refuses;
      written = rw (err_is _ _ c.from_residual.ensures.1, refuses.1) (sym (report_unfit args.identifiers.now args.report.now args.lags.now args.text.now refuses.0));
    }

pub returns-then-text-bytes : goal.returns-then-text-bytes
returns-then-text-bytes c =
    let args = c.args in
    let lent = args.text.now in
    let fits = c.in_ok-report_refused.ensures.0 in
    let whole = report_whole args.identifiers.now args.report.now args.lags.now lent fits _ _ _ c.blank-page.ensures.unused c.blank-page.ensures.size
    c.put_report.ensures c.text-bytes.ensures in
    record {
      numbered = rw c.refusal.ensures (λ none. omega arith);
      written = rw c.refusal.ensures (sym (report_short args.identifiers.now args.report.now args.lags.now lent fits (omega (arith, ap length whole))));
    }

pub overflow_cast-result : goal.overflow_cast-result
overflow_cast-result c =
    let args = c.args in
    let lent = args.text.now in
    let fits = c.in_ok-report_refused.ensures.0 in
    let whole = report_whole args.identifiers.now args.report.now args.lags.now lent fits _ _ _ c.blank-page.ensures.unused c.blank-page.ensures.size
    c.put_report.ensures c.text-bytes.ensures in
    record { fits = omega (arith, ap length whole, report_fits args.identifiers.now args.report.now args.lags.now lent fits) }

pub returns : goal.returns
returns c =
    let args = c.args in
    let lent = args.text.now in
    let fits = c.in_ok-report_refused.ensures.0 in
    let whole = report_whole args.identifiers.now args.report.now args.lags.now lent fits _ _ _ c.blank-page.ensures.unused c.blank-page.ensures.size
    c.put_report.ensures c.text-bytes.ensures in
    record {
      numbered = tt;
      written = rw (c.copy.ensures, whole) (sym (report_fine args.identifiers.now args.report.now args.lags.now lent fits (omega (arith, ap length whole))));
    }
