-- `load_table` meets its contract: of a file that cannot be read nothing is kept, as of a text that is too long.
-- Assumes nothing.
use mathlib.Core.Path.{sym}
use mathlib.Core.Bool.{true}
use mathlib.Core.List.{[]}
use native.Mathlib.Omega.{arith}
use Rattle.std.proofs.lemmas.Result.{err_from_is_err_and}
use Rattle.input.specs.Lent.{table_of}
use Rattle.input.specs.declared.Refusal.{Refusal}
use Rattle.std.specs.Prelude.{Err}
use Rattle.csv_text.proofs.Cases.{too_long, rows_faulty}
use Rattle.files.proofs.class_tables.load_table.Goals as goal

pub returns-in_err-size : goal.returns-in_err-size
returns-in_err-size g c =
    let args = c.args in
    let lent = table_of args.identifiers.now args.parents.now args.shares.now in
    let long : Refusal = record { number = 40; place = 0; second = 0 } in
    let stopped = err_from_is_err_and c.from_residual.result c.from_residual.ensures.1 in
    record {
      text = [];
      size = 1;
      read = Err long;
      same = sym (rows_faulty [] 1 lent long (too_long [] 1 (omega arith)) (λ e. omega (arith, e)));
      failed = true;
      written = true;
      outcome = rw (stopped.1, stopped.2, c.in_err-size.ensures.failed);
    }
