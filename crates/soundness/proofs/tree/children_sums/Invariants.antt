-- `children_sums` meets its contract: the rows passed are added up for their parents.
-- Assumes nothing.
use Prim.Native.Nat.{ℕ, ◌*◌, ◌^◌, ◌≤◌, ◌<◌, max}
use mathlib.Core.Path.{◌≡◌}
use lib.ListN.{length, get_or}
use Rattle.input.specs.Limits.{most_rows}
use Rattle.input.specs.Classes.{Tree}
use Rattle.live_rules.specs.Soundness.{children_sum}
use Rattle.soundness.proofs.tree.children_sums.Given as goal

abbrev pub invariant-loop-r : goal.invariant-loop-r
invariant-loop-r l =
    (0 < l.r) × (l.r ≤ max 1 l.n) × (length l.sums ≡ most_rows) × ((p : ℕ) → get_or l.sums p 0 ≤ l.r * 2 ^ 32)
    × ((tree : Tree) → tree.parents ≡ l.parents → (p : ℕ) → p < most_rows → get_or l.sums p 0 ≡ children_sum tree l.list p l.r)
