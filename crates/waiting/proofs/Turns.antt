-- Turn by turn: what remains of the turns in which children become eligible.
-- Assumes nothing.
use Prim.Native.Nat.{ℕ, zero, suc, ◌-◌, ◌<◌}
use mathlib.Core.Path.{◌≡◌, refl}
use mathlib.Core.Bool.{true, false}
use mathlib.Core.List.{List}
use native.Mathlib.Omega.{arith}
use Rattle.input.specs.Limits.{most_rows}
use Rattle.heaps.specs.Heaps.{Forest}
use Rattle.waiting.specs.Waiting.{due, ripens, ripened, time_of, ready}

module _ (starts finishes heads : List ℕ) (p v : ℕ) (f : Forest) where
  pub ripened_more : (n : ℕ) → 0 < n → due starts p v f ≡ true
      → ripened n starts finishes heads p v f ≡ ripened (n - 1) starts finishes heads p v (ripens starts finishes heads p f)
  unfolding ripened
  ripened_more zero some is = absurd (omega arith)
  ripened_more (suc n) some is = let less : suc n - 1 ≡ n = omega arith in rw (is, less)

  pub ripened_done : (n : ℕ) → due starts p v f ≡ false → ripened n starts finishes heads p v f ≡ f
  unfolding ripened
  ripened_done zero is = refl
  ripened_done (suc n) is = rw is

  pub ripened_none : (n : ℕ) → n ≡ 0 → ripened n starts finishes heads p v f ≡ f
  unfolding ripened
  ripened_none n none = rw none

  -- all turns, at the time that p chooses by
  pub ready_at : (t : ℕ) (g : Forest) → t ≡ time_of starts p v f → g ≡ ripened most_rows starts finishes heads p t f
      → g ≡ ready starts finishes heads p v f
  unfolding ready
  ready_at t g time all = rw (← time) all
