-- How often a number is in a tree, and how many there can be.
-- Assumes nothing.
use Prim.Native.Nat.{ℕ, zero, suc, ◌+◌, ◌≤◌, ◌<◌}
use mathlib.Core.Path.{◌≡◌, refl}
use native.Mathlib.Decide.{ℕ_discrete}
use native.Mathlib.Omega.{arith}
use borrow.Author.Tests.{eq-eqb, ne_eqb}
use Rattle.heaps.specs.Sizes.{most_members}
use Rattle.heaps.specs.Trees.{Tree, tip, fork, same, count, size}
use Rattle.heaps.specs.Links.{Links, Shaped}

pub same_yes : (x y : ℕ) → x ≡ y → same x y ≡ 1
unfolding same
same_yes x y is = rw (eq-eqb x y is)

pub same_no : (x y : ℕ) → (x ≡ y → ⊥) → same x y ≡ 0
unfolding same
same_no x y not = rw (ne_eqb x y not)

pub same_only : (x y : ℕ) → 0 < same x y → x ≡ y
same_only x y some = go (ℕ_discrete x y)
  where
    go : Dec (x ≡ y) → x ≡ y
    go (yes is) = is
    go (no not) = let none = same_no x y not in absurd (omega arith)

pub same_most : (x y : ℕ) → same x y ≤ 1
same_most x y = go (ℕ_discrete x y)
  where
    go : Dec (x ≡ y) → same x y ≤ 1
    go (yes is) = omega (arith, same_yes x y is)
    go (no not) = omega (arith, same_no x y not)

-- ── a tree has no more numbers than there are ──

-- how often numbers below n are in a tree
total : ℕ → Tree → ℕ
total zero t = 0
total (suc n) t = total n t + count t n

unfoldable pub ones : ℕ → ℕ → ℕ
ones zero x = 0
ones (suc n) x = ones n x + same n x

ones_none : (n x : ℕ) → n ≤ x → ones n x ≡ 0
unfolding ones
ones_none zero x high = refl
ones_none (suc n) x high =
    let less = ones_none n x (omega arith) in
    let no_more = same_no n x (λ is. omega arith) in
    omega arith

pub ones_one : (n x : ℕ) → x < n → ones n x ≡ 1
unfolding ones
ones_one zero x inside = absurd (omega arith)
ones_one (suc n) x inside = go (ones_one n x) (ℕ_discrete n x)
  where
    go : (x < n → ones n x ≡ 1) → Dec (n ≡ x) → ones n x + same n x ≡ 1
    go below (yes is) = let less = ones_none n x (omega arith) in let one = same_yes n x is in omega arith
    go below (no not) = let less = below (omega arith) in let none = same_no n x not in omega arith

total_tip : (n : ℕ) → total n tip ≡ 0
unfolding total count
total_tip zero = refl
total_tip (suc n) = let less = total_tip n in omega arith

total_fork : (n x : ℕ) (s t : Tree) → total n (fork x s t) ≡ ones n x + (total n s + total n t)
unfolding total ones count
total_fork zero x s t = refl
total_fork (suc n) x s t = let less = total_fork n x s t in omega arith

total_size : (l : Links) (a : ℕ) (t : Tree) → Shaped l a t → total most_members t ≡ size t
unfolding Shaped size
total_size l a tip shaped = total_tip most_members
total_size l a (fork x s t) shaped =
    let all = total_fork most_members x s t in
    let one = ones_one most_members x shaped.2 in
    let left = total_size l _ s shaped.3 in
    let right = total_size l _ t shaped.4 in
    omega arith

total_two : (n : ℕ) (s t : Tree) → ((x : ℕ) → count s x + count t x ≤ 1) → total n s + total n t ≤ n
unfolding total
total_two zero s t once = omega arith
total_two (suc n) s t once = let less = total_two n s t once in let one = once n in omega arith

-- two trees with no number twice have no more than there are
pub few : (l : Links) (a b : ℕ) (s t : Tree) → Shaped l a s → Shaped l b t → ((x : ℕ) → count s x + count t x ≤ 1) → size s + size t ≤ most_members
few l a b s t one two once =
    let first = total_size l a s one in
    let second = total_size l b t two in
    let all = total_two most_members s t once in
    omega arith
