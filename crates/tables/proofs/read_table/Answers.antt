-- `tables::read_table` meets its contract: 1 is looked for first, and without it the slices are of one length.
-- Assumes nothing.
use mathlib.Core.Path.{refl}
use Rattle.input.specs.Classes.{Table, tree_of}
use Rattle.input.specs.Refusals.{rows_refused, table_refused}
use Rattle.input.specs.Lent.{table_of}
use Rattle.tables.specs.Answers.{accepting}
use Rattle.tables.proofs.Judging.{handed, at_first, at_second}
use Rattle.tables.proofs.Answering.{sized}
use Rattle.tables.proofs.read_table.Goals as goal

pub returns-in_err-rows_refused : goal.returns-in_err-rows_refused
returns-in_err-rows_refused c =
    let t : Table = table_of c.args.identifiers.now c.args.parent_identifiers.now c.args.shares.now in
    handed _ (accepting (tree_of t)) c.from_residual.result _ c.from_residual.ensures.1
    (at_first (rows_refused t) (table_refused t) _ (c.in_err-rows_refused.ensures t refl refl refl))

pub read_sized-requires : goal.read_sized-requires
read_sized-requires c =
    let t : Table = table_of c.args.identifiers.now c.args.parent_identifiers.now c.args.shares.now in
    sized t (c.in_ok-rows_refused.ensures t refl refl refl).0

pub returns : goal.returns
returns c =
    let t : Table = table_of c.args.identifiers.now c.args.parent_identifiers.now c.args.shares.now in
    at_second (rows_refused t) (table_refused t) (accepting (tree_of t)) c.read_sized.result
    (c.in_ok-rows_refused.ensures t refl refl refl).0 c.read_sized.ensures
