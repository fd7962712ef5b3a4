-- `tables::read_rows` meets its contract: the lists are those of the rows passed.
-- Assumes nothing.
use mathlib.Core.Path.{◌≡◌, ap}
use native.Mathlib.Numerals.{add-one}
use native.Mathlib.Omega.{arith}
use borrow.Author.Rules.{rules}
use lib.ListN.{length}
use Rattle.input.specs.Classes.{zeros, read}
use Rattle.input.specs.Lent.{table_of}
use Rattle.arrays.specs.Arrays.{no_tree}
use Rattle.tables.specs.declared.Rows.{Rows}
use Rattle.tables.specs.Answers.{verdicts, rows_read}
use Rattle.tables.proofs.OneRow.{rows_with, rows_more}
use Rattle.tables.proofs.read_rows.Goals as goal

pub loop-r-init : goal.loop-r-init
unfolding rows_read verdicts read zeros no_tree
loop-r-init c = rw c.zeros-tree.ensures

pub read_row-row-requires : goal.read_row-row-requires
unfolding rows_read
read_row-row-requires c = (c.requires, search rules, ap (λ (rows : Rows). rows.tree.depths) c.loop-r.invariant)

pub loop-r-preserved : goal.loop-r-preserved
loop-r-preserved c =
    let at = c.loop-r in
    rw add-one
    (rows_more (table_of c.args.identifiers.now c.args.parent_identifiers.now c.args.shares.now) c.requires at.r (omega arith)
    (rows_with at.refusals at.tree) c.read_row-row.result at.invariant c.read_row-row.ensures)

pub returns : goal.returns
returns c =
    let end : c.loop-r.r ≡ length c.args.identifiers.now = omega arith in
    rw (← end) c.loop-r.invariant
