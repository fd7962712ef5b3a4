-- `sums_refused` meets its contract: the rows passed have their entries.
-- Assumes nothing.
use mathlib.Core.Path.{◌≡◌}
use Rattle.input.specs.Classes.{Tree}
use Rattle.tables.specs.Answers.{verdicts}
use Rattle.refusals.specs.All.{sum_refusal}
use Rattle.refusals.proofs.sums_refused.Given as goal

abbrev pub invariant-loop-p : goal.invariant-loop-p
invariant-loop-p l =
    (tree : Tree) → tree.parents ≡ l.tree.parents → tree.shares ≡ l.tree.shares → l.sums ≡ verdicts (sum_refusal tree l.rows) l.p
