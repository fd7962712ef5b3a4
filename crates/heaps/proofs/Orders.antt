-- The order by keys and ties: of two numbers one does not come before the other, and what does not come before goes on through a third.
-- Assumes nothing.
use Prim.Native.Nat.{ℕ, ◌≤◌}
use mathlib.Core.Path.{◌≡◌, sym}
use mathlib.Core.Bool.{Bool, true, false, cond}
use mathlib.Core.List.{List}
use native.Mathlib.Decide.{ℕ_discrete}
use native.Mathlib.Omega.{arith}
use lib.Dec.{ltb, eqb}
use lib.ListN.{get_or}
use borrow.Author.Tests.{eq-eqb, ne_eqb, ltb-true, ltb-false, le-ltb}
use Rattle.heaps.specs.Order.{before}

-- on two pairs of numbers
earlier : ℕ → ℕ → ℕ → ℕ → Bool
earlier k t m u = cond (eqb k m) (ltb t u) (ltb k m)

-- what it says where it is false
record Later (k t m u : ℕ) : Type 0 where
  keys : m ≤ k
  ties : k ≡ m → u ≤ t

later : (k t m u : ℕ) → earlier k t m u ≡ false → Later k t m u
unfolding earlier
later k t m u not = go (ℕ_discrete k m)
  where
    go : Dec (k ≡ m) → Later k t m u
    go (yes is) = record { keys = omega arith; ties = λ e. ltb-false t u (rw (eq-eqb k m is) at not) }
    go (no differ) = record { keys = ltb-false k m (rw (ne_eqb k m differ) at not); ties = λ e. absurd (differ e) }

not_earlier : (k t m u : ℕ) → Later k t m u → earlier k t m u ≡ false
unfolding earlier
not_earlier k t m u is = go (ℕ_discrete k m)
  where
    go : Dec (k ≡ m) → cond (eqb k m) (ltb t u) (ltb k m) ≡ false
    go (yes e) = rw (eq-eqb k m e) (le-ltb t u (is.ties e))
    go (no differ) = rw (ne_eqb k m differ) (le-ltb k m is.keys)

earlier_whole : (k t m u : ℕ) → earlier k t m u ≡ true → earlier m u k t ≡ false
unfolding earlier
earlier_whole k t m u is = not_earlier m u k t (go (ℕ_discrete k m))
  where
    go : Dec (k ≡ m) → Later m u k t
    go (yes e) = let less = ltb-true t u (rw (eq-eqb k m e) at is) in record { keys = omega arith; ties = λ e. omega arith }
    go (no differ) = let less = ltb-true k m (rw (ne_eqb k m differ) at is) in record { keys = omega arith; ties = λ e. omega arith }

earlier_chain : (k t m u n v : ℕ) → earlier m u k t ≡ false → earlier n v m u ≡ false → earlier n v k t ≡ false
earlier_chain k t m u n v one two = go (later m u k t one) (later n v m u two)
  where
    go : Later m u k t → Later n v m u → earlier n v k t ≡ false
    go first second = not_earlier n v k t (record {
      keys = omega (arith, first.keys, second.keys);
      ties = λ e.
          let a : m ≡ k = omega (arith, first.keys, second.keys) in
          let b : n ≡ m = omega arith in
          omega (arith, first.ties a, second.ties b);
    })

module _ (keys ties : List ℕ) where
  pub before_whole : (x y : ℕ) → before keys ties x y ≡ true → before keys ties y x ≡ false
  unfolding before earlier
  before_whole x y is = earlier_whole (get_or keys x 0) (get_or ties x 0) (get_or keys y 0) (get_or ties y 0) is

  pub before_chain : (x y z : ℕ) → before keys ties y x ≡ false → before keys ties z y ≡ false → before keys ties z x ≡ false
  unfolding before earlier
  before_chain x y z one two =
      earlier_chain (get_or keys x 0) (get_or ties x 0) (get_or keys y 0) (get_or ties y 0) (get_or keys z 0) (get_or ties z 0) one two

  pub before_keys : (x y : ℕ) → before keys ties x y ≡ false → get_or keys y 0 ≤ get_or keys x 0
  unfolding before earlier
  before_keys x y not = (later (get_or keys x 0) (get_or ties x 0) (get_or keys y 0) (get_or ties y 0) not).keys

  pub before_same : (x y : ℕ) → before keys ties x y ≡ false → before keys ties y x ≡ false → get_or ties x 0 ≡ get_or ties y 0
  unfolding before earlier
  before_same x y one two =
      let first = later (get_or keys x 0) (get_or ties x 0) (get_or keys y 0) (get_or ties y 0) one in
      let second = later (get_or keys y 0) (get_or ties y 0) (get_or keys x 0) (get_or ties x 0) two in
      let same : get_or keys x 0 ≡ get_or keys y 0 = omega arith in
      let a = first.ties same in
      let b = second.ties (sym same) in
      omega arith
