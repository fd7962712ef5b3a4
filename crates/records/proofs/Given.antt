-- The first of some tests, each given a number: the next one holds, or it does not; and another refusal that is the same.
-- Assumes nothing.
use Prim.Native.Nat.{ℕ}
use mathlib.Core.Path.{◌≡◌, refl}
use mathlib.Core.Bool.{Bool, true, false}
use mathlib.Core.Logic.{◌≢◌}
use mathlib.Core.List.{List, [], ◌∷◌}
use borrow.Author.Tests.{ne_eqb}
use Rattle.input.specs.declared.Refusal.{Refusal}
use Rattle.input.specs.Refusals.{nothing, given, or_else, first}
use Rattle.tables.specs.Answers.{refusal_of}
use Rattle.tables.specs.Judged.{Refuses}

module _ (test : Bool) (number place : ℕ) (later : List Refusal) where
  pub holds : test ≡ true → number ≢ 0 → first (given test number place ∷ later) ≡ refusal_of number place 0
  unfolding first given or_else
  holds test_true some = rw (test_true, ne_eqb number 0 some) refl

  pub fails : test ≡ false → first (given test number place ∷ later) ≡ first later
  unfolding first given or_else nothing
  fails test_false = rw test_false refl

pub fails_last : (test : Bool) (number place : ℕ) → test ≡ false → first (given test number place ∷ []) ≡ nothing
unfolding first
fails_last test number place test_false = fails test number place [] test_false

-- another refusal that is the same
pub refuses_as : (one other r : Refusal) → one ≡ other → Refuses one r → Refuses other r
refuses_as one other r same refused = rw (← same) refused
