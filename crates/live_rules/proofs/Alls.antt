-- A test of every number below one, or of some: how it goes on by one, what makes it fail, and what it says of each.
-- Assumes nothing.
use Prim.Native.Nat.{ℕ, zero, suc, ◌+◌, ◌<◌}
use mathlib.Core.Path.{◌≡◌, refl, ap₂}
use mathlib.Core.Bool.{Bool, true, false, ◌&&◌, ◌||◌, false≢true, and-false, or-true}
use native.Mathlib.Decide.{ℕ_discrete}
use native.Mathlib.Numerals.{add-one}
use native.Mathlib.Omega.{arith}
use Rattle.live_rules.specs.Soundness.{all, any}

-- ── two tests ──

pub both_true : (a b : Bool) → a && b ≡ true → (a ≡ true) × (b ≡ true)
both_true true b pass = (refl, pass)
both_true false b pass = absurd (false≢true pass)

pub true_both : (a b : Bool) → a ≡ true → b ≡ true → a && b ≡ true
true_both a b one two = rw (one, two)

-- ── every one ──

pub all_none : (test : ℕ → Bool) → all 0 test ≡ true
unfolding all
all_none test = refl

-- one more that passes, counted as the definition and as code does
pub all_next : (n : ℕ) (test : ℕ → Bool) → all n test ≡ true → test n ≡ true → all (suc n) test ≡ true
unfolding all
all_next n test before here = rw (before, here)

pub all_more : (n : ℕ) (test : ℕ → Bool) → all n test ≡ true → test n ≡ true → all (n + 1) test ≡ true
all_more n test before here = rw (add-one n) (all_next n test before here)

-- one that fails is enough
pub all_fails : (n : ℕ) (test : ℕ → Bool) (r : ℕ) → r < n → test r ≡ false → all n test ≡ false
unfolding all
all_fails zero test r inside fails = absurd (omega arith)
all_fails (suc n) test r inside fails = go (ℕ_discrete r n) (λ below. all_fails n test r below fails)
  where
    go : Dec (r ≡ n) → (r < n → all n test ≡ false) → (all n test && test n) ≡ false
    go (yes same) earlier = rw (← same, fails) (and-false (all r test))
    go (no other) earlier = rw (earlier (omega arith))

pub all_true : (n : ℕ) (test : ℕ → Bool) → all n test ≡ true → (i : ℕ) → i < n → test i ≡ true
unfolding all
all_true zero test pass i below = absurd (omega arith)
all_true (suc n) test pass i below =
    let both = both_true (all n test) (test n) pass in
    go (all_true n test both.0 i) both.1 (ℕ_discrete i n)
  where
    go : (i < n → test i ≡ true) → test n ≡ true → Dec (i ≡ n) → test i ≡ true
    go earlier last (yes same) = rw same last
    go earlier last (no other) = earlier (omega arith)

pub true_all : (n : ℕ) (test : ℕ → Bool) → ((i : ℕ) → i < n → test i ≡ true) → all n test ≡ true
unfolding all
true_all zero test each = refl
true_all (suc n) test each =
    true_both (all n test) (test n) (true_all n test (λ i below. each i (omega arith))) (each n (omega arith))

-- tests that agree below n
pub all_same : (n : ℕ) (test other : ℕ → Bool) → ((r : ℕ) → r < n → test r ≡ other r) → all n test ≡ all n other
unfolding all
all_same zero test other each = refl
all_same (suc n) test other each = ap₂ ◌&&◌ (all_same n test other (λ r inside. each r (omega arith))) (each n (omega arith))

-- ── some one ──

pub true_any : (n : ℕ) (test : ℕ → Bool) (i : ℕ) → i < n → test i ≡ true → any n test ≡ true
unfolding any
true_any zero test i below is = absurd (omega arith)
true_any (suc n) test i below is = go (ℕ_discrete i n) (λ earlier. true_any n test i earlier is)
  where
    go : Dec (i ≡ n) → (i < n → any n test ≡ true) → (any n test || test n) ≡ true
    go (yes same) earlier = rw (← same, is) (or-true (any i test))
    go (no other) earlier = rw (earlier (omega arith))
