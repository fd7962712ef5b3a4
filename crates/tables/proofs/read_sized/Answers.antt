-- `tables::read_sized` meets its contract: the rows before the sums.
-- Assumes nothing.
use mathlib.Core.Path.{refl}
use lib.ListN.{length}
use Rattle.input.specs.Classes.{Table, tree_of}
use Rattle.input.specs.Refusals.{first_below, row_refused, shares_refused, table_refused}
use Rattle.input.specs.Lent.{table_of}
use Rattle.std.specs.Prelude.{Ok}
use Rattle.laws.proofs.Tree.Trees.{tree_rows}
use Rattle.tables.specs.Answers.{accepting}
use Rattle.tables.proofs.Judging.{handed, at_first, at_second}
use Rattle.tables.proofs.Answering.{reading_of, parents_read, shares_read, refusals_read, accepted}
use Rattle.tables.proofs.read_sized.Goals as goal

pub returns-in_err-first_refused : goal.returns-in_err-first_refused
unfolding table_refused
returns-in_err-first_refused c =
    let t : Table = table_of c.args.identifiers.now c.args.parent_identifiers.now c.args.shares.now in
    let rows = c.read_rows-rows in
    handed _ (accepting (tree_of t)) c.from_residual.result _ c.from_residual.ensures.1
    (at_first (first_below (row_refused t) (length t.identifiers)) (first_below (shares_refused t) (length t.identifiers)) _
    (c.in_err-first_refused.ensures (row_refused t) (refusals_read t rows.result rows.ensures c.requires.most)))

pub returns-in_err-shares_refused : goal.returns-in_err-shares_refused
unfolding table_refused
returns-in_err-shares_refused c =
    let t : Table = table_of c.args.identifiers.now c.args.parent_identifiers.now c.args.shares.now in
    let rows = c.read_rows-rows in
    let sums = c.in_err-shares_refused.ensures t refl (parents_read t rows.result rows.ensures) (shares_read t rows.result rows.ensures) in
    at_second (first_below (row_refused t) (length t.identifiers)) (first_below (shares_refused t) (length t.identifiers))
    (accepting (tree_of t)) c.from_residual-in_err-shares_refused.result
    (c.in_ok-first_refused.ensures (row_refused t) (refusals_read t rows.result rows.ensures c.requires.most)).0
    (handed _ (accepting (tree_of t)) c.from_residual-in_err-shares_refused.result _ c.from_residual-in_err-shares_refused.ensures.1 sums)

pub returns : goal.returns
unfolding table_refused
returns c =
    let t : Table = table_of c.args.identifiers.now c.args.parent_identifiers.now c.args.shares.now in
    let rows = c.read_rows-rows in
    let none = c.in_ok-first_refused.ensures (row_refused t) (refusals_read t rows.result rows.ensures c.requires.most) in
    let sums = c.in_ok-shares_refused.ensures t refl (parents_read t rows.result rows.ensures) (shares_read t rows.result rows.ensures) in
    let senders = c.senders_of-senders in
    at_second (first_below (row_refused t) (length t.identifiers)) (first_below (shares_refused t) (length t.identifiers))
    (accepting (tree_of t)) (Ok (reading_of rows.result.tree senders.result)) none.0
    (sums.0, accepted t rows.result rows.ensures senders.result (senders.ensures (tree_of t) (parents_read t rows.result rows.ensures) (tree_rows t)))
