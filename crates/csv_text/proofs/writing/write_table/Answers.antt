-- `csv_text::writing::write_table` meets its contract: the page has room for any table, so that what is used of it is the text.
-- Assumes nothing.
use mathlib.Core.Path.{refl, sym, ap}
use native.Mathlib.Omega.{arith}
use lib.ListN.{length}
use Rattle.input.specs.Classes.{Table}
use Rattle.input.specs.Lent.{table_of}
use Rattle.tables.proofs.Answering.{sized}
use Rattle.tables.proofs.Judging.{err_is, handed_number}
use Rattle.csv_text.proofs.Written.{table_rows, table_fits, table_whole, table_short, table_faulty, table_fine, table_said}
use Rattle.csv_text.proofs.writing.write_table.Goals as goal

pub returns-in_err-rows_refused : goal.returns-in_err-rows_refused
returns-in_err-rows_refused c =
    let t : Table = table_of c.args.identifiers.now c.args.parents.now c.args.shares.now in
    let refuses = c.in_err-rows_refused.ensures t refl refl refl in
    record {
      numbered = handed_number _ _ _ c.from_residual.ensures.1 refuses;
      written = rw (err_is _ _ c.from_residual.ensures.1, refuses.1) (sym (table_rows t c.args.text.now refuses.0));
    }

pub put_table-requires : goal.put_table-requires
put_table-requires c =
    let t : Table = table_of c.args.identifiers.now c.args.parents.now c.args.shares.now in
    let fits = (c.in_ok-rows_refused.ensures t refl refl refl).0 in
    (omega arith, ((sized t fits).parents, (sized t fits).shares))

pub returns-then-text-table : goal.returns-then-text-table
returns-then-text-table c =
    let t : Table = table_of c.args.identifiers.now c.args.parents.now c.args.shares.now in
    let lent = c.args.text.now in
    let fits = (c.in_ok-rows_refused.ensures t refl refl refl).0 in
    let whole = table_whole t lent fits _ _ _ c.blank-page.ensures.unused c.blank-page.ensures.size c.put_table.ensures c.text-table.ensures in
    record {
      numbered = rw c.refusal.ensures (λ none. omega arith);
      written = rw c.refusal.ensures (sym (table_short t lent fits (omega (arith, ap length whole))));
    }

pub returns-in_err-read_table : goal.returns-in_err-read_table
returns-in_err-read_table c =
    let t : Table = table_of c.args.identifiers.now c.args.parents.now c.args.shares.now in
    let lent = c.args.text.now in
    let fits = (c.in_ok-rows_refused.ensures t refl refl refl).0 in
    let whole = table_whole t lent fits _ _ _ c.blank-page.ensures.unused c.blank-page.ensures.size c.put_table.ensures c.text-table.ensures in
    let refuses = rw (table_said t fits) at c.in_err-read_table.ensures in
    record {
      numbered = handed_number _ _ _ c.from_residual-in_err-read_table.ensures.1 refuses;
      written = rw (err_is _ _ c.from_residual-in_err-read_table.ensures.1, refuses.1) (sym (table_faulty t lent fits (omega (arith, ap length whole)) refuses.0));
    }

pub overflow_cast-result : goal.overflow_cast-result
overflow_cast-result c =
    let t : Table = table_of c.args.identifiers.now c.args.parents.now c.args.shares.now in
    let lent = c.args.text.now in
    let fits = (c.in_ok-rows_refused.ensures t refl refl refl).0 in
    let whole = table_whole t lent fits _ _ _ c.blank-page.ensures.unused c.blank-page.ensures.size c.put_table.ensures c.text-table.ensures in
    record { fits = omega (arith, ap length whole, table_fits t lent fits) }

pub returns : goal.returns
returns c =
    let t : Table = table_of c.args.identifiers.now c.args.parents.now c.args.shares.now in
    let lent = c.args.text.now in
    let fits = (c.in_ok-rows_refused.ensures t refl refl refl).0 in
    let whole = table_whole t lent fits _ _ _ c.blank-page.ensures.unused c.blank-page.ensures.size c.put_table.ensures c.text-table.ensures in
    let passed = rw (table_said t fits) at c.in_ok-read_table.ensures in
    record {
      numbered = tt;
      written = rw (c.copy.ensures, whole) (sym (table_fine t lent fits (omega (arith, ap length whole)) passed.0));
    }
