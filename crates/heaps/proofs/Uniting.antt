-- Two heaps that have nothing in common become one.
-- Assumes nothing.
use Prim.Native.Nat.{ℕ, ◌+◌, ◌≤◌, ◌<◌}
use mathlib.Core.Path.{◌≡◌, refl}
use mathlib.Core.Bool.{Bool, true, false}
use native.Mathlib.Omega.{arith}
use borrow.Author.Tests.{eq-eqb, ne_eqb}
use Rattle.heaps.specs.Sizes.{most_members}
use Rattle.heaps.specs.Trees.{Tree, tip, fork, count, Ordered}
use Rattle.heaps.specs.Links.{Links, Full, Shaped, left_of, right_of, hung, melded, root_of}
use Rattle.heaps.proofs.Counting.{same_no, few}
use Rattle.heaps.proofs.Melding.{Melded, hung_melds}

-- number 0 is in no tree
pub no_zero : (l : Links) (a : ℕ) (t : Tree) → Shaped l a t → count t 0 ≡ 0
unfolding Shaped count
no_zero l a tip shaped = refl
no_zero l a (fork x s t) shaped =
    let here = same_no 0 x (λ is. omega (arith, shaped.1)) in
    let left = no_zero l _ s shaped.3 in
    let right = no_zero l _ t shaped.4 in
    omega arith

-- what has become of two heaps
pub record Union (before : ℕ → ℕ → Bool) (l m : Links) (root : ℕ) (s t : Tree) : Type 0 where
  pub tree : Tree
  pub full : Full m
  pub shaped : Shaped m root tree
  pub ordered : Ordered before tree
  pub counts : (x : ℕ) → count tree x ≡ count s x + count t x
  pub keeps : (x : ℕ) → 0 < x → count s x + count t x ≡ 0 → (left_of m x ≡ left_of l x) × (right_of m x ≡ right_of l x)

module _
    (before : ℕ → ℕ → Bool)
    (chain : (x y z : ℕ) → before y x ≡ false → before z y ≡ false → before z x ≡ false)
    (whole : (x y : ℕ) → before x y ≡ true → before y x ≡ false)
  where
    pub union : (l : Links) (a b : ℕ) (s t : Tree) → Full l → Shaped l a s → Shaped l b t → Ordered before s → Ordered before t
        → ((x : ℕ) → count s x + count t x ≤ 1) → Union before l (melded before a b l) (root_of before a b l) s t
    unfolding Shaped count melded root_of
    union l a b s tip full one two one_ordered two_ordered once =
        rw (eq-eqb b 0 two) (record {
          tree = s;
          full = full;
          shaped = one;
          ordered = one_ordered;
          counts = λ x. omega arith;
          keeps = λ x some none. (refl, refl);
        })
    union l a b s (fork y tl tr) full one two one_ordered two_ordered once =
        rw (ne_eqb b 0 (λ none. omega (arith, two.0, two.1))) (record {
          tree = all.tree;
          full = all.full;
          shaped = all.shaped;
          ordered = all.ordered;
          counts = all.counts;
          keeps = λ x some none. (all.left_else x (λ is. omega arith) none, all.right_else x none);
        })
      where
        all : Melded before l (hung before most_members 0 a b l) 0 s (fork y tl tr)
        all =
            hung_melds before chain whole most_members 0 a b l s (fork y tl tr) (few l a b s (fork y tl tr) one two once)
            (record {
              full = full;
              inside = omega arith;
              one = one;
              two = two;
              some = omega (arith, two.0, two.1);
              one_ordered = one_ordered;
              two_ordered = two_ordered;
              once = once;
              free = let first = no_zero l a s one in let second = no_zero l b (fork y tl tr) two in omega arith;
            })
