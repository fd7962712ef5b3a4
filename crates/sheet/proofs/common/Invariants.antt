-- `sheet::common` meets its contract: every turn keeps what divides both numbers.
-- Assumes nothing.
use Prim.Native.Nat.{ℕ, ◌<◌, ◌∣◌}
use Rattle.sheet.proofs.common.Given as goal

abbrev pub invariant-loop-x : goal.invariant-loop-x
invariant-loop-x l =
    (0 < l.y) × ((d : ℕ) → d ∣ l.x → d ∣ l.y → (d ∣ l.a) × (d ∣ l.b)) × ((d : ℕ) → d ∣ l.a → d ∣ l.b → (d ∣ l.x) × (d ∣ l.y))

abbrev pub decreases-loop-x : goal.decreases-loop-x
decreases-loop-x l = l.x
