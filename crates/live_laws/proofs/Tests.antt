-- A test of some number below one says which.
-- Assumes nothing.
use Prim.Native.Nat.{ℕ, zero, suc, ◌<◌}
use mathlib.Core.Path.{◌≡◌}
use mathlib.Core.Logic.{⊎_elim}
use mathlib.Core.Bool.{Bool, true, false≢true}
use native.Mathlib.Omega.{arith}
use Rattle.laws.proofs.Path.Tests.{either}
use Rattle.live_rules.specs.Soundness.{any}

pub any_true : (n : ℕ) (test : ℕ → Bool) → any n test ≡ true → (i : ℕ) × (i < n) × (test i ≡ true)
unfolding any
any_true zero test pass = absurd (false≢true pass)
any_true (suc n) test pass =
    ⊎_elim (λ earlier. let (i, below, is) = any_true n test earlier in (i, omega arith, is)) (λ last. (n, omega arith, last))
    (either (any n test) (test n) pass)
