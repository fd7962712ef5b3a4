-- `tables::shares_refused` meets its contract: nothing refuses the rows passed.
-- Assumes nothing.
use mathlib.Core.Path.{◌≡◌}
use lib.ListN.{length}
use Rattle.input.specs.Classes.{Table, tree_of}
use Rattle.input.specs.Refusals.{first_below, shares_refused}
use Rattle.tables.proofs.shares_refused.Given as goal

abbrev pub invariant-loop-p : goal.invariant-loop-p
invariant-loop-p l =
    (table : Table) → length table.identifiers ≡ l.rows → (tree_of table).parents ≡ l.tree.parents → (tree_of table).shares ≡ l.tree.shares
    → (first_below (shares_refused table) l.p).number ≡ 0
