-- Two tests of every number below n at once.
-- Assumes nothing.
use Prim.Native.Nat.{ℕ, zero, suc}
use mathlib.Core.Path.{◌≡◌, refl}
use mathlib.Core.Bool.{Bool, true, false, ◌&&◌}
use Rattle.live_rules.specs.Soundness.{all}

swap : (a b c d : Bool) → ((a && b) && (c && d)) ≡ ((a && c) && (b && d))
swap true true c d = refl
swap true false true d = refl
swap true false false d = refl
swap false b c d = refl

-- two tests at once
pub all_both : (one other : ℕ → Bool) (n : ℕ) → all n (λ i. one i && other i) ≡ (all n one && all n other)
unfolding all
all_both one other zero = refl
all_both one other (suc n) = rw (all_both one other n) (swap (all n one) (all n other) (one n) (other n))
