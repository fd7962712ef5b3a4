-- Tests joined, as the loops that leave early go by them.
-- Assumes nothing.
use Prim.Native.Nat.{ℕ, zero, suc, ◌<◌}
use mathlib.Core.Path.{◌≡◌, refl, sym, ◌∙◌}
use mathlib.Core.List.{List}
use mathlib.Core.Bool.{Bool, true, false, ◌&&◌, ◌||◌}
use native.Mathlib.Omega.{arith}
use denote.Param.Members.{Mut}
use lib.ListN.{length, get_or}
use Rattle.std.specs.Prelude.{Option}
use Rattle.std.specs.Option.{MatchOption}
use Rattle.std.specs.Bool.{MatchBool}
use Rattle.std.specs.Fn.{Called}
use Rattle.std.specs.Iterator.{YieldsThen}
use Rattle.std.specs.List.{range_with_len, AllWithin, HoldsAt, FoldsTo}
use Rattle.std.specs.declared.ops.Range.{Range}
use Rattle.std.proofs.iter.Yields.{nat_range_steps}
use Rattle.std.proofs.lemmas.Iterator.{cases_from_all, YieldsList-from_range}
use Rattle.std.proofs.lemmas.List.FromFn.{length-range_with_len, get_or-range_with_len}
use Rattle.live_rules.specs.Soundness.{any, all}
use Rattle.live_rules.proofs.Alls.{true_all, all_fails}

pub or_false : (a : Bool) → (a || false) ≡ a
or_false true = refl
or_false false = refl

pub both_left : (a b : Bool) → (a && b) ≡ true → a ≡ true
both_left true b e = refl
both_left false b e = e

pub both_right : (a b : Bool) → (a && b) ≡ true → b ≡ true
both_right true b e = e
both_right false true e = refl
both_right false false e = e

-- none passes
pub any_false : (n : ℕ) (test : ℕ → Bool) → ((r : ℕ) → r < n → test r ≡ false) → any n test ≡ false
unfolding any
any_false zero test none = refl
any_false (suc n) test none = rw (any_false n test (λ r inside. none r (omega arith)), none n (omega arith))

-- ── a walk over the rows that ends at the first that fails ──

-- what `all` over the numbers below n says, where its closure tests each
pub all_tested :
    {F : Type 0} {g : Mut F (ℕ × Unit {0}) Bool} {s : Range ℕ} (u : Range ℕ) (f : F) (b : Bool) (n : ℕ) (test : ℕ → Bool)
    → (xs : List ℕ) × (o : Option ℕ) × (j : F) × YieldsThen nat_range_steps s xs o u × FoldsTo (λ p x q. Called g p (x, tt) true q) f xs j
    × MatchOption o (b ≡ true) (λ x. (b ≡ false) × ((h : F) × Called g j (x, tt) false h))
    → s ≡ record { start = 0; end = n } → ((x : ℕ) (r : Bool) (q : F) → Called g f (x, tt) r q → (q ≡ f) × (r ≡ test x)) → b ≡ all n test
all_tested {F} {g} {s} u f b n test ran is called =
    told b (cases_from_all u f b (λ x. test x ≡ true) (λ x. test x ≡ false) ran (YieldsList-from_range 0 n n is (omega arith))
    (λ x q k. ((called x true q k).0, sym (called x true q k).1))
    (λ x q k. sym (called x false q k).1))
  where
    at_place : (i : ℕ) → i < n → get_or (range_with_len 0 n) i 0 ≡ i
    at_place i below = get_or-range_with_len 0 n i 0 below ∙ omega arith

    told :
        (v : Bool)
        → MatchBool v (AllWithin (λ x. test x ≡ true) (range_with_len 0 n) 0 (length (range_with_len 0 n)))
        ((k : ℕ) × (k < length (range_with_len 0 n)) × HoldsAt (λ x. test x ≡ false) (range_with_len 0 n) k)
        → v ≡ all n test
    told true each = sym (true_all n test (λ i below. rw (at_place i below) at (each i 0 (omega arith) (rw (length-range_with_len 0 n) below))))
    told false some =
        let below : some.0 < n = rw (length-range_with_len 0 n) at some.1 in
        sym (all_fails n test some.0 below (rw (at_place some.0 below) at (some.2 0)))
