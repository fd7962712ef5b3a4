-- Tests, and what a test chooses between.
-- Assumes nothing.
use Prim.Native.Nat.{ℕ, ◌≤◌}
use mathlib.Core.Path.{◌≡◌, refl, sym, ◌∙◌}
use mathlib.Core.Logic.{◌⊎◌, inl, inr}
use mathlib.Core.Bool.{Bool, true, false, cond, true≢false, ◌||◌}

-- a test does not both fail and pass
pub both_ways : (b : Bool) (P : Type 0) → b ≡ false → b ≡ true → P
both_ways b P fail pass = absurd (true≢false (sym pass ∙ fail))

-- where one of two tests passes, and where neither does
pub either : (a b : Bool) → (a || b) ≡ true → (a ≡ true) ⊎ (b ≡ true)
either true b pass = inl refl
either false b pass = inr pass

pub neither : (a b : Bool) → (a || b) ≡ false → (a ≡ false) × (b ≡ false)
neither true b fail = absurd (true≢false fail)
neither false b fail = (refl, fail)

pub cond_self : {A : Type 0} (b : Bool) (x : A) → cond b x x ≡ x
cond_self true x = refl
cond_self false x = refl

-- a bound on both is one on either
pub cond_most : (b : Bool) (x y z : ℕ) → x ≤ z → y ≤ z → cond b x y ≤ z
cond_most true x y z one other = one
cond_most false x y z one other = other

pub cond_least : (b : Bool) (x y z : ℕ) → z ≤ x → z ≤ y → z ≤ cond b x y
cond_least true x y z one other = one
cond_least false x y z one other = other
