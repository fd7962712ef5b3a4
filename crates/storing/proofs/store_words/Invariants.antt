-- `store_words` meets its contract: a row more at each turn.
-- Assumes nothing.
use mathlib.Core.Path.{◌≡◌}
use lib.ListN.{length}
use Rattle.live_rules.specs.State.{rows_stored}
use Rattle.storing.proofs.store_words.Given as goal

abbrev pub invariant-loop-r : goal.invariant-loop-r
invariant-loop-r l = (l.state ≡ rows_stored l.at l.r l.list l.initial.state) × (length l.state ≡ length l.initial.state)
