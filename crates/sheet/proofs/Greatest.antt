-- The greatest number that divides two others, and what it is known by.
-- Assumes nothing.
use Prim.Native.Nat.{ℕ, zero, suc, ◌%◌, ◌≤◌, ◌<◌, ◌∣◌}
use mathlib.Core.Path.{◌≡◌, refl, sym, subst, ◌∙◌}
use mathlib.Core.Bool.{Bool, true, false, false≢true}
use mathlib.Mathlib.Data.Bool.Basic.{and-eq-true-eq-eq-true-and-eq-true as and-is-true}
use native.Mathlib.Nat.{one-dvd, le_of_dvd, mod-eq-zero_of_dvd, dvd_of_mod-eq-zero}
use native.Mathlib.Decide.{ℕ_discrete}
use native.Mathlib.Omega.{arith}
use lib.Dec.{eqb}
use borrow.Author.Tests.{eq-eqb, eqb-true}
use Rattle.sheet.specs.Paper.{divides_both, greatest}

module _ (a b : ℕ) where
  divides : (d : ℕ) → d ∣ a → d ∣ b → divides_both a b d ≡ true
  unfolding divides_both
  divides d one other = rw (eq-eqb (a % d) 0 (mod-eq-zero_of_dvd d one), eq-eqb (b % d) 0 (mod-eq-zero_of_dvd d other))

  divided : (d : ℕ) → divides_both a b d ≡ true → (d ∣ a) × (d ∣ b)
  unfolding divides_both
  divided d passes =
      let tests = (and-is-true (eqb (a % d) 0) (eqb (b % d) 0)).0 passes in
      (dvd_of_mod-eq-zero d (eqb-true (a % d) 0 tests.0), dvd_of_mod-eq-zero d (eqb-true (b % d) 0 tests.1))

  here : (n : ℕ) → divides_both a b (suc n) ≡ true → greatest a b (suc n) ≡ suc n
  unfolding greatest
  here n passes = rw (greatest, passes) refl

  below : (n : ℕ) → divides_both a b (suc n) ≡ false → greatest a b (suc n) ≡ greatest a b n
  unfolding greatest
  below n fails = rw (greatest, fails) refl

  -- it divides both
  pub greatest_divides : (n : ℕ) → (greatest a b n ∣ a) × (greatest a b n ∣ b)
  unfolding greatest
  greatest_divides zero = (one-dvd a, one-dvd b)
  greatest_divides (suc n) = go (divides_both a b (suc n)) refl (greatest_divides n)
    where
      go :
          (t : Bool) → divides_both a b (suc n) ≡ t → (greatest a b n ∣ a) × (greatest a b n ∣ b)
          → (greatest a b (suc n) ∣ a) × (greatest a b (suc n) ∣ b)
      go true passes before = rw (here n passes) (divided (suc n) passes)
      go false fails before = rw (below n fails) before

  pub greatest_some : (n : ℕ) → 0 < greatest a b n
  unfolding greatest
  greatest_some zero = omega arith
  greatest_some (suc n) = go (divides_both a b (suc n)) refl (greatest_some n)
    where
      go : (t : Bool) → divides_both a b (suc n) ≡ t → 0 < greatest a b n → 0 < greatest a b (suc n)
      go true passes before = rw (here n passes) (omega arith)
      go false fails before = rw (below n fails) before

  -- nothing above it does
  pub greatest_most : (n d : ℕ) → 0 < d → d ≤ n → d ∣ a → d ∣ b → d ≤ greatest a b n
  greatest_most zero d some within one other = absurd (omega arith)
  greatest_most (suc n) d some within one other =
      go (divides_both a b (suc n)) refl (ℕ_discrete d (suc n)) (λ earlier. greatest_most n d some earlier one other)
    where
      go : (t : Bool) → divides_both a b (suc n) ≡ t → Dec (d ≡ suc n) → (d ≤ n → d ≤ greatest a b n) → d ≤ greatest a b (suc n)
      go true passes last before = rw (here n passes) within
      go false fails (yes last) before =
          absurd (false≢true (sym fails ∙ subst (λ (e : ℕ). divides_both a b e ≡ true) last (divides d one other)))
      go false fails (no sooner) before = rw (below n fails) (before (omega arith))

  -- a number that divides both, and that all others divide, is the greatest
  pub greatest_is : (n d : ℕ) → 0 < d → d ≤ n → d ∣ a → d ∣ b → ((e : ℕ) → e ∣ a → e ∣ b → e ∣ d) → greatest a b n ≡ d
  greatest_is n d some within one other all =
      let from = greatest_most n d some within one other in
      let its = greatest_divides n in
      let to = le_of_dvd some (all (greatest a b n) its.0 its.1) in
      omega arith
