-- `tables::read_row` meets its contract: the numbers that it finds are those that the row is read as.
-- Assumes nothing.
use Prim.Native.Nat.{◌≤◌}
use mathlib.Core.Path.{refl, ◌∙◌}
use native.Mathlib.Omega.{arith}
use Rattle.input.specs.Limits.{most_rows}
use Rattle.input.specs.Classes.{Table, parent_of}
use Rattle.input.specs.Lent.{table_of}
use Rattle.tables.proofs.Judging.{err_verdict}
use Rattle.tables.proofs.OneRow.{depth_small, root_row, class_row}
use Rattle.tables.proofs.read_row.Goals as goal

pub returns-then-r-eq0 : goal.returns-then-r-eq0
unfolding parent_of
returns-then-r-eq0 c =
    let t : Table = table_of c.args.identifiers.now c.args.parent_identifiers.now c.args.shares.now in
    root_row t c.requires.0 c.args.r c.if-r-eq0.true c.err.result c.earlier-parent.result
    (c.err.ensures.value ∙ err_verdict _ tt c.root_refused.result c.root_refused.ensures) (c.earlier-parent.ensures.0 t refl)

pub overflow_add-depth : goal.overflow_add-depth
overflow_add-depth c =
    let t : Table = table_of c.args.identifiers.now c.args.parent_identifiers.now c.args.shares.now in
    let few : c.args.r ≤ most_rows = omega arith in
    let small = depth_small t c.args.r c.earlier-parent.result few in
    rw c.requires.2 (omega arith)

pub returns : goal.returns
unfolding parent_of
returns c =
    let t : Table = table_of c.args.identifiers.now c.args.parent_identifiers.now c.args.shares.now in
    class_row t c.requires.0 c.args.r c.requires.1 c.if-r-eq0.false c.args.tree.now.depths c.requires.2
    c.err-2.result c.earlier-parent.result c.earlier-other.result
    (c.earlier-parent.ensures.0 t refl) (c.earlier-other.ensures.0 t refl)
    (c.err-2.ensures.value ∙ err_verdict _ tt c.class_refused.result c.class_refused.ensures)
