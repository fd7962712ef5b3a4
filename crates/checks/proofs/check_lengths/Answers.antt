-- `checks::check_lengths` meets its contract: 1, 2, 3 in this order, by how many words there are.
-- Assumes nothing.
use mathlib.Core.Path.{refl}
use Rattle.checks.proofs.check_lengths.Goals as goal

pub returns : goal.returns
returns c = c.check_counts.ensures _ _ (record { rows_are = refl; parents_are = refl; shares_are = refl; events_are = refl; lengths_are = refl })
