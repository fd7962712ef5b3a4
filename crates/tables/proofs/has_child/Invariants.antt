-- `tables::has_child` meets its contract: none of the rows passed is a child.
-- Assumes nothing.
use mathlib.Core.Path.{◌≡◌}
use mathlib.Core.Bool.{false}
use Rattle.input.specs.Classes.{Tree, has_child}
use Rattle.tables.proofs.has_child.Given as goal

abbrev pub invariant-loop-r : goal.invariant-loop-r
invariant-loop-r l = ((tree : Tree) → tree.parents ≡ l.tree.parents → has_child tree l.p l.r ≡ false)
