-- The least of some rows by a key, of equal keys that with the earliest place: what looking at them one after another finds, in any order.
-- Assumes nothing.
use Prim.Native.Nat.{ℕ, zero, suc, ◌≤◌, ◌<◌}
use mathlib.Core.Path.{◌≡◌, refl, sym, subst, ◌∙◌}
use mathlib.Core.Logic.{◌≢◌, ◌⊎◌, inl, inr, ⊎_elim}
use mathlib.Core.Bool.{Bool, true, false, cond, ◌&&◌, and-eq-true_iff}
use mathlib.Core.List.Memᴰ
use mathlib.Core.List.{List, [], ◌∷◌, Memᴰ}
use native.Mathlib.Decide.{ℕ_discrete}
use native.Mathlib.Omega.{arith}
use lib.Dec.{ltb, eqb}
use borrow.Author.Tests.{ltb-true, ltb-false, eqb-true, eq-eqb, ne_eqb}
use Rattle.rules.specs.Steps.{sooner, lesser, least}
use Rattle.laws.specs.Choices.{looked}
use Rattle.laws.proofs.Path.Tests.{both_ways, either, neither}

module _ (test : ℕ → Bool) (key place : ℕ → ℕ) where
  -- row a is not after row b: its key is less, or as large and its place no later
  pub record Leads (a b : ℕ) : Type 0 where
    pub by_key : key a ≤ key b
    pub by_place : key a ≡ key b → place a ≤ place b

  -- `best` is one of the rows seen and passes, and none of them that passes is before it
  abbrev pub Best : (ℕ → Type 0) → ℕ → Type 0
  Best seen best = seen best × (test best ≡ true) × ((j : ℕ) → seen j → test j ≡ true → Leads best j)

  -- what looking at these rows finds; 0 is no row, so row 0 must not pass
  abbrev pub Found : (ℕ → Type 0) → ℕ → Type 0
  Found seen best = ((best ≡ 0) × ((j : ℕ) → seen j → test j ≡ false)) ⊎ ((best ≢ 0) × Best seen best)

  -- ── two rows ──

  sooner_leads : (a b : ℕ) → sooner key place a b ≡ true → Leads a b
  unfolding sooner
  sooner_leads a b is = ⊎_elim less equal (either (ltb (key a) (key b)) (eqb (key a) (key b) && ltb (place a) (place b)) is)
    where
      less : ltb (key a) (key b) ≡ true → Leads a b
      less test = let lower = ltb-true (key a) (key b) test in record { by_key = omega arith; by_place = λ same. absurd (omega arith) }

      equal : (eqb (key a) (key b) && ltb (place a) (place b)) ≡ true → Leads a b
      equal test =
          let parts = (and-eq-true_iff (eqb (key a) (key b)) (ltb (place a) (place b))).0 test in
          let same = eqb-true (key a) (key b) parts.0 in
          let earlier = ltb-true (place a) (place b) parts.1 in
          record { by_key = omega arith; by_place = λ also. omega arith }

  later_leads : (a b : ℕ) → sooner key place a b ≡ false → Leads b a
  unfolding sooner
  later_leads a b is =
      let parts = neither (ltb (key a) (key b)) (eqb (key a) (key b) && ltb (place a) (place b)) is in
      record {
        by_key = ltb-false (key a) (key b) parts.0;
        by_place = λ same. ltb-false (place a) (place b) (rw (eq-eqb (key a) (key b) (sym same)) at parts.1);
      }

  self_leads : (a : ℕ) → Leads a a
  self_leads a = record { by_key = omega arith; by_place = λ same. omega arith }

  then_leads : (a b c : ℕ) → Leads a b → Leads b c → Leads a c
  then_leads a b c one two =
      record {
        by_key = omega (arith, one.by_key, two.by_key);
        by_place = λ same.
            let first = one.by_place (omega (arith, one.by_key, two.by_key)) in
            let second = two.by_place (omega (arith, one.by_key, two.by_key)) in
            omega arith;
      }

  fails : (best r : ℕ) → test r ≡ false → lesser test key place best r ≡ best
  unfolding lesser
  fails best r e = rw e

  first_one : (best r : ℕ) → test r ≡ true → best ≡ 0 → lesser test key place best r ≡ r
  unfolding lesser
  first_one best r e none = rw (e, eq-eqb best 0 none)

  compared : (best r : ℕ) → test r ≡ true → best ≢ 0 → lesser test key place best r ≡ cond (sooner key place r best) r best
  unfolding lesser
  compared best r e some = rw (e, ne_eqb best 0 some)

  module _ (no_root : test 0 ≡ false) where
    not_root : (r : ℕ) → test r ≡ true → r ≢ 0
    not_root r e root = both_ways (test 0) ⊥ no_root (rw (← root) e)

    -- ── one row more ──

    module _
        (seen more : ℕ → Type 0) (r : ℕ) (new : more r) (still : (j : ℕ) → seen j → more j) (only : (j : ℕ) → more j → (j ≡ r) ⊎ seen j) where
      -- what holds of the rows seen and of r holds of all of them
      all_seen : (P : ℕ → Type 0) → ((j : ℕ) → seen j → P j) → P r → (j : ℕ) → more j → P j
      all_seen P before here j is = ⊎_elim (λ e. subst P (sym e) here) (before j) (only j is)

      -- r passes, and nothing that was seen and passes is before it
      found_here : test r ≡ true → ((j : ℕ) → seen j → test j ≡ true → Leads r j) → Found more r
      found_here e leads = inr (not_root r e, (new, e, all_seen (λ j. test j ≡ true → Leads r j) leads (λ pass. self_leads r)))

      -- the best so far stays so
      found_before : (best : ℕ) → (best ≢ 0) × Best seen best → (test r ≡ true → Leads best r) → Found more best
      found_before best f leads =
          inr (f.0, (still best f.1.0, f.1.1, all_seen (λ j. test j ≡ true → Leads best j) f.1.2 leads))

      next_fails : (best : ℕ) → test r ≡ false → Found seen best → Found more best
      next_fails best e (inl f) = inl (f.0, all_seen (λ j. test j ≡ false) f.1 e)
      next_fails best e (inr f) = found_before best f (both_ways (test r) (Leads best r) e)

      next_passes : (best : ℕ) (b : Bool) → sooner key place r best ≡ b → test r ≡ true → (best ≢ 0) × Best seen best → Found more (cond b r best)
      next_passes best true is e f =
          found_here e (λ j before pass. then_leads r best j (sooner_leads r best is) (f.1.2 j before pass))
      next_passes best false is e f = found_before best f (λ pass. later_leads r best is)

      next : (best : ℕ) (b : Bool) → test r ≡ b → Found seen best → Found more (lesser test key place best r)
      next best false e f = rw (fails best r e) (next_fails best e f)
      next best true e (inl f) =
          rw (first_one best r e f.0) (found_here e (λ j before pass. both_ways (test j) (Leads r j) (f.1 j before) pass))
      next best true e (inr f) = rw (compared best r e f.0) (next_passes best _ refl e f)

    -- ── all rows from the lowest up, and the rows of a list ──

    pub found : (n : ℕ) → Found (λ j. j < n) (least test key place n)
    unfolding least
    found zero = inl (refl, λ j inside. absurd (omega arith))
    found (suc r) = next (λ j. j < r) (λ j. j < suc r) r (omega arith) (λ j is. omega arith) last (least test key place r) (test r) refl (found r)
      where
        last : (j : ℕ) → j < suc r → (j ≡ r) ⊎ (j < r)
        last j inside = go (ℕ_discrete j r)
          where
            go : Dec (j ≡ r) → (j ≡ r) ⊎ (j < r)
            go (yes e) = inl e
            go (no other) = inr (omega arith)

    pub looked_found : (look : List ℕ) → Found (λ j. Memᴰ j look) (looked test key place look)
    unfolding looked
    looked_found [] = inl (refl, λ j is. absurd (Memᴰ.not-nil is))
    looked_found (r ∷ look) =
        next (λ j. Memᴰ j look) (λ j. Memᴰ j (r ∷ look)) r (Memᴰ.head refl) (λ j is. Memᴰ.tail is)
        (λ j is. Memᴰ.cases_cons is) (looked test key place look) (test r) refl (looked_found look)

    -- looked at in two orders, rows of which no two that pass have the same place lead to the same one
    pub found_same :
        (one two : ℕ → Type 0) → ((j : ℕ) → test j ≡ true → one j → two j) → ((j : ℕ) → test j ≡ true → two j → one j)
        → ((a b : ℕ) → one a → one b → test a ≡ true → test b ≡ true → place a ≡ place b → a ≡ b)
        → (a b : ℕ) → Found one a → Found two b → a ≡ b
    found_same one two to from apart a b (inl f) (inl g) = f.0 ∙ sym g.0
    found_same one two to from apart a b (inl f) (inr g) =
        both_ways (test b) (a ≡ b) (f.1 b (from b g.1.1 g.1.0)) g.1.1
    found_same one two to from apart a b (inr f) (inl g) =
        both_ways (test a) (a ≡ b) (g.1 a (to a f.1.1 f.1.0)) f.1.1
    found_same one two to from apart a b (inr f) (inr g) =
        let b_seen = from b g.1.1 g.1.0 in
        let there = f.1.2 b b_seen g.1.1 in
        let back = g.1.2 a (to a f.1.1 f.1.0) f.1.1 in
        let same : key a ≡ key b = omega (arith, there.by_key, back.by_key) in
        apart a b f.1.0 b_seen f.1.1 g.1.1 (omega (arith, there.by_place same, back.by_place (sym same)))
