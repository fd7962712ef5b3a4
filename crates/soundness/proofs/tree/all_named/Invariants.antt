-- `all_named` meets its contract: the rows passed are named, and the table has their identifiers.
-- Assumes nothing.
use Prim.Native.Nat.{ℕ}
use mathlib.Core.Path.{◌≡◌}
use mathlib.Core.Bool.{true}
use lib.ListN.{length}
use Rattle.live_rules.specs.Soundness.{all}
use Rattle.soundness.specs.Bits.{table_words, met}
use Rattle.soundness.proofs.Names.{earlier_has, newly}
use Rattle.soundness.proofs.tree.all_named.Given as goal

abbrev pub invariant-loop-r : goal.invariant-loop-r
invariant-loop-r l =
    (length l.table ≡ table_words) × (all l.r (newly l.identifiers) ≡ true) × ((x : ℕ) → met l.table x ≡ earlier_has l.identifiers l.r x)
