-- `checks::rows::row_of` meets its contract: the row that is filed there has the class's identifier, or none has.
-- Assumes nothing.
use mathlib.Core.Path.{ap}
use lib.ListN.{get_or}
use borrow.Author.Rules.{rules}
use Rattle.checks.proofs.Filing.{all_inside, row_there, row_nowhere}
use Rattle.checks.proofs.rows.row_of.Goals as goal

pub overflow_cast-row : goal.overflow_cast-row
overflow_cast-row c =
    let low = all_inside c.args.identifiers.now c.args.rows.now c.requires c.on_air.result in
    let few = c.requires.few in
    search (rules, low, few)

pub offset_bounds-identifiers-row : goal.offset_bounds-identifiers-row
offset_bounds-identifiers-row c =
    let low = all_inside c.args.identifiers.now c.args.rows.now c.requires c.on_air.result in
    let few = c.requires.few in
    search (rules, low, few)

pub bounds-identifiers-row : goal.bounds-identifiers-row
bounds-identifiers-row c = all_inside c.args.identifiers.now c.args.rows.now c.requires c.on_air.result

pub returns-then-identifiers-row : goal.returns-then-identifiers-row
returns-then-identifiers-row c =
    let low = all_inside c.args.identifiers.now c.args.rows.now c.requires c.on_air.result in
    let a = c.args in (
      λ apart. (
        row_there a.identifiers.now apart a.rows.now c.requires a.class _
            (ap (λ x. get_or a.rows.now x 0) c.on_air.ensures.0) low c.if-identifiers-row.true,
        low,
      ),
      low,
    )

pub returns : goal.returns
returns c =
    let a = c.args in (
      λ apart. row_nowhere a.identifiers.now apart a.rows.now c.requires a.class _
          (ap (λ x. get_or a.rows.now x 0) c.on_air.ensures.0) c.if-identifiers-row.false,
      tt,
    )
