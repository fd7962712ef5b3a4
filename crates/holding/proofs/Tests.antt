-- Tests of numbers that the code makes another way.
-- Assumes nothing.
use Prim.Native.Nat.{ℕ, ◌+◌, ◌-◌, ◌≤◌}
use mathlib.Core.Path.{◌≡◌, refl}
use mathlib.Core.Bool.{Bool, true, false, cond}
use native.Mathlib.Decide.{ℕ_discrete}
use native.Mathlib.Omega.{arith}
use borrow.Author.Tests.{eq-eqb, ne_eqb}
use lib.Dec.{eqb}

pub neither : (b : Bool) → false ≡ cond b false false
neither true = refl
neither false = refl

-- what is between start and finish is the charge
pub between : (finish start ticks : ℕ) → start ≤ finish → eqb (finish - start) ticks ≡ eqb finish (start + ticks)
between finish start ticks late = go (ℕ_discrete (finish - start) ticks)
  where
    go : Dec (finish - start ≡ ticks) → eqb (finish - start) ticks ≡ eqb finish (start + ticks)
    go (yes same) = rw (eq-eqb (finish - start) ticks same, eq-eqb finish (start + ticks) (omega arith))
    go (no other) = rw (ne_eqb (finish - start) ticks other, ne_eqb finish (start + ticks) (λ e. other (omega arith)))
