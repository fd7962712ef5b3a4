-- A list that is filled place by place has each entry at its place.
-- Assumes nothing.
use Prim.Native.Nat.{ℕ, zero, suc, ◌<◌, ◌≤◌}
use mathlib.Core.Path.{◌≡◌, refl, ◌∙◌, ap}
use mathlib.Core.List.{List}
use native.Mathlib.Decide.{ℕ_discrete}
use native.Mathlib.Omega.{arith}
use lib.ListN.{length, get_or, set, length-set}
use lib.Seq.{get_or-set_same, get_or-set_other}

module _ {A : Type 0} (filled : ℕ → List A) (entry : ℕ → A) (step : (n : ℕ) → filled (suc n) ≡ set (filled n) n (entry n)) where
  pub filled_length : (n : ℕ) → length (filled n) ≡ length (filled 0)
  filled_length zero = refl
  filled_length (suc n) = ap length (step n) ∙ length-set (filled n) n (entry n) ∙ filled_length n

  pub filled_at : (default : A) (n i : ℕ) → i < n → n ≤ length (filled 0) → get_or (filled n) i default ≡ entry i
  filled_at default zero i below few = absurd (omega arith)
  filled_at default (suc n) i below few = rw (step n) (go (ℕ_discrete i n) (filled_at default n i))
    where
      go : Dec (i ≡ n) → (i < n → n ≤ length (filled 0) → get_or (filled n) i default ≡ entry i)
          → get_or (set (filled n) n (entry n)) i default ≡ entry i
      go (yes same) before =
          let long = filled_length n in
          rw same (get_or-set_same (filled n) n (entry n) default (omega arith))
      go (no other) before = get_or-set_other (filled n) n i (entry n) default other ∙ before (omega arith) (omega arith)
