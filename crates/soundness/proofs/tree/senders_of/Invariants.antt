-- `senders_of` meets its contract: the rows passed have marked their parents.
-- Assumes nothing.
use Prim.Native.Nat.{ℕ, ◌<◌}
use mathlib.Core.Path.{◌≡◌}
use mathlib.Core.Bool.{false}
use lib.ListN.{length, get_or}
use Rattle.input.specs.Limits.{most_rows}
use Rattle.input.specs.Classes.{Tree}
use Rattle.soundness.proofs.Turns.{childless}
use Rattle.soundness.proofs.tree.senders_of.Given as goal

abbrev pub invariant-loop-r : goal.invariant-loop-r
invariant-loop-r l =
    (0 < l.r) × (length l.marks ≡ most_rows)
    × ((tree : Tree) → tree.parents ≡ l.parents → (p : ℕ) → p < most_rows → childless tree l.r p ≡ get_or l.marks p false)
