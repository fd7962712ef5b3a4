-- The first that refuses, of two, of some and of many.
-- Assumes nothing.
use Prim.Native.Nat.{ℕ, zero, suc, ◌<◌}
use mathlib.Core.Path.{◌≡◌, refl, sym, ◌∙◌, ap}
use mathlib.Core.Bool.{Bool, true, false, cond}
use mathlib.Core.Logic.{◌≢◌}
use mathlib.Core.List.{List, [], ◌∷◌, ◌++◌}
use native.Mathlib.Decide.{ℕ_discrete}
use native.Mathlib.Omega.{arith}
use lib.Dec.{ltb}
use borrow.Author.Tests.{eq-eqb, ne_eqb}
use Rattle.input.specs.declared.Refusal.{Refusal}
use Rattle.input.specs.Classes.{Table}
use Rattle.input.specs.Refusals.{nothing, given, or_else, first, first_below, doubled, root_refused, class_refused, row_refused, shares_refused, table_refused}
use Rattle.laws.proofs.Tree.Trees.{or_none}

-- ── two ──

pub or_else_first : (a b : Refusal) → a.number ≢ 0 → or_else a b ≡ a
unfolding or_else
or_else_first a b some = rw (ne_eqb a.number 0 some)

pub or_else_second : (a b : Refusal) → a.number ≡ 0 → or_else a b ≡ b
unfolding or_else
or_else_second a b none = rw (eq-eqb a.number 0 none)

-- ── a test that is given a number ──

pub given_last : (test : Bool) (number place : ℕ) → number ≢ 0 → or_else (given test number place) nothing ≡ given test number place
unfolding given nothing
given_last true number place some = or_else_first (record { number = number; place = place; second = 0 }) nothing some
given_last false number place some = or_else_second nothing nothing refl

-- ── with number 0, nothing ──

abbrev pub Plain : Refusal → Type 0
Plain refusal = refusal.number ≡ 0 → refusal ≡ nothing

test_plain : (test : Bool) (number place second : ℕ) → number ≢ 0
    → Plain (cond test (record { number = number; place = place; second = second }) nothing)
test_plain true number place second some none = absurd (some none)
test_plain false number place second some none = refl

pub given_plain : (test : Bool) (number place : ℕ) → number ≢ 0 → Plain (given test number place)
unfolding given
given_plain test number place = test_plain test number place 0

pub or_else_plain : (a b : Refusal) → Plain a → Plain b → Plain (or_else a b)
or_else_plain a b plain_a plain_b none = let both = or_none a b none in or_else_second a b both.0 ∙ plain_b both.1

pub last_plain : (a : Refusal) → Plain a → Plain (or_else a nothing)
last_plain a plain = or_else_plain a nothing plain (λ e. refl)

pub below_plain : (at : ℕ → Refusal) → ((i : ℕ) → Plain (at i)) → (n : ℕ) → Plain (first_below at n)
unfolding first_below
below_plain at plain zero none = refl
below_plain at plain (suc n) none = or_else_plain (first_below at n) (at n) (below_plain at plain n) (plain n) none

doubled_plain : (r other : ℕ) → Plain (doubled r other)
unfolding doubled
doubled_plain r other = test_plain (ltb other r) 5 r other (omega arith)

pub row_plain : (table : Table) (r : ℕ) → Plain (row_refused table r)
unfolding row_refused root_refused class_refused first
row_plain table zero =
    or_else_plain (given _ 4 0) _ (given_plain _ 4 0 (omega arith))
    (or_else_plain (given _ 15 0) _ (given_plain _ 15 0 (omega arith)) (last_plain (given _ 6 0) (given_plain _ 6 0 (omega arith))))
row_plain table (suc r) =
    or_else_plain (given _ 4 (suc r)) _ (given_plain _ 4 (suc r) (omega arith))
    (or_else_plain (given _ 15 (suc r)) _ (given_plain _ 15 (suc r) (omega arith))
    (or_else_plain (doubled (suc r) _) _ (doubled_plain (suc r) _)
    (or_else_plain (given _ 7 (suc r)) _ (given_plain _ 7 (suc r) (omega arith))
    (or_else_plain (given _ 8 (suc r)) _ (given_plain _ 8 (suc r) (omega arith))
    (last_plain (given _ 9 (suc r)) (given_plain _ 9 (suc r) (omega arith)))))))

pub table_plain : (table : Table) → Plain (table_refused table)
unfolding table_refused shares_refused
table_plain table =
    or_else_plain (first_below (row_refused table) _) (first_below (shares_refused table) _)
    (below_plain (row_refused table) (row_plain table) _)
    (below_plain (shares_refused table) (λ p. given_plain _ 10 p (omega arith)) _)

-- ── some ──

or_else_assoc : (a b c : Refusal) → or_else (or_else a b) c ≡ or_else a (or_else b c)
or_else_assoc a b c = go (ℕ_discrete a.number 0)
  where
    go : Dec (a.number ≡ 0) → or_else (or_else a b) c ≡ or_else a (or_else b c)
    go (yes none) = rw (or_else_second a b none, or_else_second a (or_else b c) none) refl
    go (no some) = rw (or_else_first a b some, or_else_first a c some, or_else_first a (or_else b c) some) refl

pub first_append : (xs ys : List Refusal) → first (xs ++ ys) ≡ or_else (first xs) (first ys)
unfolding first nothing
first_append [] ys = sym (or_else_second nothing (first ys) refl)
first_append (x ∷ xs) ys = ap (or_else x) (first_append xs ys) ∙ sym (or_else_assoc x (first xs) (first ys))

-- ── many ──

module _ (at : ℕ → Refusal) where
  -- none before i, and one at i
  pub stopped : (i n : ℕ) → i < n → (first_below at i).number ≡ 0 → (at i).number ≢ 0 → first_below at n ≡ at i
  unfolding first_below
  stopped i zero below none some = absurd (omega arith)
  stopped i (suc n) below none some = go (ℕ_discrete i n) (λ lower. stopped i n lower none some)
    where
      go : Dec (i ≡ n) → (i < n → first_below at n ≡ at i) → or_else (first_below at n) (at n) ≡ at i
      go (yes same) before = rw (← same) (or_else_second (first_below at i) (at i) none)
      go (no other) before = rw (before (omega arith)) (or_else_first (at i) (at n) some)
