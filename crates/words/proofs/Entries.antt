-- The entries of a list of numbers once one of them is set.
-- Assumes nothing.
use Prim.Native.Nat.{ℕ, zero, suc}
use mathlib.Core.List.{List, [], ◌∷◌}
use lib.ListN.{get_or, set}

-- what holds of the number that is set, and held of the entry at j, holds of the entry at j
pub entry_set : (P : ℕ → Type 0) (xs : List ℕ) (i x j : ℕ) → P x → P (get_or xs j 0) → P (get_or (set xs i x) j 0)
entry_set P [] i x j new old = old
entry_set P (y ∷ ys) zero x zero new old = new
entry_set P (y ∷ ys) zero x (suc j) new old = old
entry_set P (y ∷ ys) (suc i) x zero new old = old
entry_set P (y ∷ ys) (suc i) x (suc j) new old = entry_set P ys i x j new old
