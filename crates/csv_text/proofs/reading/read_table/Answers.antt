-- `read_table` meets its contract: what refuses the rows that were read refuses the text, and else they are its table.
-- Assumes nothing.
use mathlib.Core.Path.{◌≡◌, refl, ap, ◌∙◌}
use Prim.Native.Nat.{ℕ}
use native.Mathlib.Omega.{arith}
use lib.ListN.{length, replicate, length-replicate}
use Rattle.input.specs.Lent.{table_of}
use Rattle.forms.specs.Outcomes.{rows_found}
use Rattle.csv_text.specs.Kept.{unfit}
use Rattle.tables.proofs.Judging.{err_is}
use Rattle.csv_text.proofs.Judging.{err_number, numbered}
use Rattle.csv_text.proofs.Whole.{fault_left, refused_left, few_read, copyable, done_left}
use borrow.Author.Rules.{rules}
use Rattle.csv_text.proofs.reading.read_table.Goals as goal

-- the words that rows are read into
abbrev Zeros : Type 0
Zeros = length {A = ℕ} (replicate 256 0) ≡ 256

wide : Zeros × Zeros × Zeros
wide = let zeros : Zeros = length-replicate {A = ℕ} 256 0 in (zeros, zeros, zeros)

pub returns-in_err-read : goal.returns-in_err-read
returns-in_err-read c =
    let args = c.args in
    let lent = table_of args.identifiers.now args.parents.now args.shares.now in
    let some = c.in_err-read.ensures.numbered in
    record {
      numbered = err_number _ _ c.from_residual.ensures.1 some;
      read = rw (err_is _ _ c.from_residual.ensures.1) (fault_left args.text.now args.size _ _ lent _ wide c.in_err-read.ensures.read _ some refl);
    }

pub returns-in_err-unfit : goal.returns-in_err-unfit
unfolding rows_found
returns-in_err-unfit c =
    let args = c.args in
    let lent = table_of args.identifiers.now args.parents.now args.shares.now in
    let refuses = c.in_err-unfit.ensures in
    let asked = refuses.1 ∙ ap (unfit _ _) (c.fits-room.ensures lent refl refl refl) in
    let some = numbered _ _ refuses in
    record {
      numbered = err_number _ _ c.from_residual-in_err-unfit.ensures.1 some;
      read = rw (err_is _ _ c.from_residual-in_err-unfit.ensures.1) (refused_left args.text.now args.size _ _ lent _ wide c.in_ok-read.ensures.read _ asked some);
    }

pub copy_rows-requires : goal.copy_rows-requires
unfolding rows_found
copy_rows-requires c =
    let args = c.args in
    let lent = table_of args.identifiers.now args.parents.now args.shares.now in
    let asked = ap (unfit _ _) (c.fits-room.ensures lent refl refl refl) in
    copyable args.text.now args.size _ _ lent _ wide c.in_ok-read.ensures.read _ asked c.in_ok-unfit.ensures.0 (search rules) (search rules) (search rules)

pub overflow_cast-result : goal.overflow_cast-result
unfolding rows_found
overflow_cast-result c =
    let args = c.args in
    let lent = table_of args.identifiers.now args.parents.now args.shares.now in
    let asked = ap (unfit _ _) (c.fits-room.ensures lent refl refl refl) in
    let few = few_read args.text.now args.size _ _ lent _ wide c.in_ok-read.ensures.read _ asked c.in_ok-unfit.ensures.0 in
    record { fits = omega (arith, few) }

pub returns : goal.returns
unfolding rows_found
returns c =
    let args = c.args in
    let lent = table_of args.identifiers.now args.parents.now args.shares.now in
    let asked = ap (unfit _ _) (c.fits-room.ensures lent refl refl refl) in
    record {
      numbered = tt;
      read = rw c.copy_rows.ensures (done_left args.text.now args.size _ _ lent _ wide c.in_ok-read.ensures.read _ asked c.in_ok-unfit.ensures.0);
    }
