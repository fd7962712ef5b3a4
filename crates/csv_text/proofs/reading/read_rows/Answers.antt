-- `read_rows` meets its contract, by the tests that lead to each case.
-- Assumes nothing.
use mathlib.Core.Path.{refl, sym, ap, ◌∙◌}
use native.Mathlib.Omega.{arith}
use lib.ListN.{take}
use Rattle.input.specs.declared.Refusal.{Refusal}
use Rattle.input.specs.Lent.{table_of}
use Rattle.tables.proofs.Judging.{err_is, handed_number}
use Rattle.csv_text.proofs.Judging.{numbered}
use Rattle.csv_text.proofs.Cases.{too_long, fault_within, fault_is, fits_room, rows_faulty, rows_good, rows_fit, rows_short, rows_count}
use Rattle.csv_text.proofs.reading.read_rows.Goals as goal

pub returns-then-text-size : goal.returns-then-text-size
returns-then-text-size c =
    let args = c.args in
    let long = too_long args.text.now args.size c.if-text-size.true in
    record {
      numbered = rw c.refusal.ensures (λ none. omega arith);
      read = rw c.refusal.ensures (sym (rows_faulty _ _ _ _ long (λ e. omega (arith, e))));
    }

pub returns-in_err-scan_refused : goal.returns-in_err-scan_refused
returns-in_err-scan_refused c =
    let args = c.args in
    let refuses = c.in_err-scan_refused.ensures in
    let fault = fault_within args.text.now args.size c.if-text-size.false ∙ sym (refuses.1 ∙ fault_is _ _ c.scan_text-scan.ensures) in
    record {
      numbered = handed_number _ _ _ c.from_residual.ensures.1 refuses;
      read = rw (err_is _ _ c.from_residual.ensures.1) (sym (rows_faulty _ _ _ _ fault (numbered _ _ refuses)));
    }

pub fill-requires : goal.fill-requires
fill-requires c =
    let args = c.args in
    let lent = table_of args.identifiers.now args.parents.now args.shares.now in
    let scan = c.scan_text-scan in
    let count = rows_count (take args.size args.text.now) scan.result scan.ensures ∙ sym c.rows_of-rows.ensures in
    fits_room (take args.size args.text.now) lent _ count (sym (c.fits-kept.ensures lent refl refl refl) ∙ c.if-kept.true)

pub returns-then-kept : goal.returns-then-kept
returns-then-kept c =
    let args = c.args in
    let lent = table_of args.identifiers.now args.parents.now args.shares.now in
    let scan = c.scan_text-scan in
    let fault = fault_within args.text.now args.size c.if-text-size.false ∙ sym (fault_is _ _ scan.ensures) in
    let good = rows_good args.text.now args.size lent (ap (λ (r : Refusal). r.number) fault ∙ c.in_ok-scan_refused.ensures.0) in
    let count = rows_count (take args.size args.text.now) scan.result scan.ensures ∙ sym c.rows_of-rows.ensures in
    let room = sym (c.fits-kept.ensures lent refl refl refl) ∙ c.if-kept.true in
    record { numbered = tt; read = rw (c.if-kept.true, c.fill.ensures) (sym (good ∙ rows_fit _ lent _ count room)) }

pub returns-else-kept : goal.returns-else-kept
returns-else-kept c =
    let args = c.args in
    let lent = table_of args.identifiers.now args.parents.now args.shares.now in
    let scan = c.scan_text-scan in
    let fault = fault_within args.text.now args.size c.if-text-size.false ∙ sym (fault_is _ _ scan.ensures) in
    let good = rows_good args.text.now args.size lent (ap (λ (r : Refusal). r.number) fault ∙ c.in_ok-scan_refused.ensures.0) in
    let count = rows_count (take args.size args.text.now) scan.result scan.ensures ∙ sym c.rows_of-rows.ensures in
    let short = sym (c.fits-kept.ensures lent refl refl refl) ∙ c.if-kept.false in
    record { numbered = tt; read = rw c.if-kept.false (sym (good ∙ rows_short _ lent _ count short)) }
