-- `tables::senders_of` meets its contract: the rows passed have their entries.
-- Assumes nothing.
use mathlib.Core.Path.{◌≡◌}
use Rattle.input.specs.Classes.{Tree}
use Rattle.tables.specs.Answers.{senders_below}
use Rattle.tables.proofs.senders_of.Given as goal

abbrev pub invariant-loop-r : goal.invariant-loop-r
invariant-loop-r l =
    ((tree : Tree) → tree.parents ≡ l.tree.parents → tree.rows ≡ l.rows → l.senders ≡ senders_below tree l.r)
