-- `judge` meets its contract: 1 is looked for first, and without it the slices are of one length.
-- Assumes nothing.
use mathlib.Core.Path.{refl}
use Rattle.input.specs.Classes.{Table}
use Rattle.input.specs.Lent.{table_of}
use Rattle.tables.specs.Sized.{Sized}
use Rattle.tables.proofs.Judging.{handed}
use Rattle.tables.proofs.Answering.{sized}
use Rattle.refusals.specs.All.{row_by_row}
use Rattle.refusals.proofs.Judging.{judged_rows}
use Rattle.refusals.proofs.judge.Goals as goal
use Rattle.refusals.proofs.judge.Goals.{In_ok-rows_refused}

-- without 1 the slices are of one length
fit : (c : In_ok-rows_refused) → Sized (table_of c.args.identifiers.now c.args.parent_identifiers.now c.args.shares.now)
fit c =
    let t : Table = table_of c.args.identifiers.now c.args.parent_identifiers.now c.args.shares.now in
    sized t (c.in_ok-rows_refused.ensures t refl refl refl).0

pub returns-in_err-rows_refused : goal.returns-in_err-rows_refused
returns-in_err-rows_refused c =
    let t : Table = table_of c.args.identifiers.now c.args.parent_identifiers.now c.args.shares.now in
    handed _ (row_by_row t) c.from_residual.result _ c.from_residual.ensures.1 (c.in_err-rows_refused.ensures t refl refl refl)

pub read_rows-rows-requires : goal.read_rows-rows-requires
read_rows-rows-requires c = fit (goal.at.read_rows-rows-requires c).In_ok-rows_refused

pub sums_refused-sums-requires : goal.sums_refused-sums-requires
sums_refused-sums-requires c = (fit (goal.at.sums_refused-sums-requires c).In_ok-rows_refused).most

pub returns : goal.returns
returns c =
    let t : Table = table_of c.args.identifiers.now c.args.parent_identifiers.now c.args.shares.now in
    let rows = c.read_rows-rows in
    let sums = c.sums_refused-sums in
    ((c.in_ok-rows_refused.ensures t refl refl refl).0, judged_rows t rows.result rows.ensures sums.result sums.ensures)
