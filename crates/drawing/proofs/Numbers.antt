-- How large the product of the parts on the way becomes, and what one part more does to it.
-- Assumes nothing.
use Prim.Native.Nat.{ℕ, zero, suc, ◌+◌, ◌-◌, ◌*◌, ◌/◌, ◌^◌, ◌<◌, ◌≤◌}
use mathlib.Core.Path.{◌≡◌, sym, ◌∙◌, subst}
use native.Mathlib.Nat.{mul-le-mul, mul-le-mul_left, mul_left_comm, mul_assoc, mul_comm, mul-one, pow-succ', pow-le-pow_right, div-le_of_le-mul}
use native.Mathlib.Numerals.{add-one}
use native.Mathlib.Omega.{arith}
use Rattle.input.specs.Limits.{whole, most_depth}
use Rattle.input.specs.Classes.{Tree, parent}
use Rattle.drawing.specs.Parts.{hundredths, part, product}

-- ── how large ──

-- one step more
pub grows : (v p steps : ℕ) → p ≤ whole → v ≤ hundredths * whole ^ steps → v * p ≤ hundredths * whole ^ (steps + 1)
grows v p steps few most =
    let both : p * v ≤ whole * (hundredths * whole ^ steps) = mul-le-mul few most in
    rw (mul_comm v p, add-one, pow-succ' whole steps, mul_left_comm hundredths whole (whole ^ steps)) both

-- 128 bits hold the product of as many steps as there can be
pub fits : (v steps : ℕ) → steps ≤ most_depth → v ≤ hundredths * whole ^ steps → v < 2 ^ 128
fits v steps few most =
    let grown : whole ^ steps ≤ whole ^ most_depth = pow-le-pow_right {n = whole} (omega arith) few in
    let more : hundredths * whole ^ steps ≤ hundredths * whole ^ most_depth = mul-le-mul_left hundredths grown in
    omega (arith, more)

-- and the whole as often as there can be steps
pub whole_fits : (steps : ℕ) → steps ≤ most_depth → whole ^ steps < 2 ^ 128
whole_fits steps few =
    let grown : whole ^ steps ≤ whole ^ most_depth = pow-le-pow_right {n = whole} (omega arith) few in omega (arith, grown)

pub whole_above : (steps : ℕ) → 0 < whole ^ steps
whole_above zero = omega arith
whole_above (suc steps) = rw (pow-succ' whole steps) (omega (arith, whole_above steps))

-- ── the parts on the way ──

module _ (tree : Tree) (all : ℕ) where
  pub one_more : (v at steps step : ℕ) → step < steps → v * product tree (steps - step) at ≡ all
      → (v * part tree at) * product tree (steps - (step + 1)) (parent tree at) ≡ all
  unfolding product
  one_more v at steps step below same =
      let m = steps - (step + 1) in
      let longer : steps - step ≡ suc m = omega arith in
      go m (subst (λ (k : ℕ). v * product tree k at ≡ all) longer same)
    where
      go : (m : ℕ) → v * product tree (suc m) at ≡ all → (v * part tree at) * product tree m (parent tree at) ≡ all
      go m same' = mul_assoc v (part tree at) _ ∙ same'

  pub at_last : (v at steps step : ℕ) → steps ≤ step → v * product tree (steps - step) at ≡ all → v ≡ all
  unfolding product
  at_last v at steps step past same =
      let none : steps - step ≡ 0 = omega arith in
      sym (mul-one v) ∙ subst (λ (k : ℕ). v * product tree k at ≡ all) none same

pub product_most : (tree : Tree) (steps r : ℕ) → product tree steps r ≤ whole ^ steps
unfolding product part
product_most tree zero r = omega arith
product_most tree (suc steps) r = rw (pow-succ' whole steps) (mul-le-mul (omega arith) (product_most tree steps (parent tree r)))

-- no part is more than all
pub line_most : (tree : Tree) (steps r : ℕ) → hundredths * product tree steps r / whole ^ steps ≤ hundredths
line_most tree steps r =
    div-le_of_le-mul (whole ^ steps) (rw (mul_comm (whole ^ steps) hundredths) (mul-le-mul_left hundredths (product_most tree steps r)))
