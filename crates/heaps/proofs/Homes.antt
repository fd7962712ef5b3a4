-- Where numbers are at home: what changes when one moves, and heaps with other homes or in another order.
-- Assumes nothing.
use Prim.Native.Nat.{ℕ, suc, ◌+◌, ◌<◌}
use mathlib.Core.Path.{◌≡◌, refl, ◌∙◌}
use mathlib.Core.Bool.{Bool}
use native.Mathlib.Decide.{ℕ_discrete}
use native.Mathlib.Omega.{arith}
use borrow.Author.Tests.{eq-eqb, ne_eqb}
use Rattle.heaps.specs.Sizes.{most_heaps}
use Rattle.heaps.specs.Trees.{Tree, tip, fork, same, count, Ordered}
use Rattle.heaps.specs.Links.{Links}
use Rattle.heaps.specs.Heaps.{Forest, top, Heap, Heaps, moved}
use Rattle.heaps.proofs.Counting.{same_yes, same_no, same_only}

pub moved_own : (home : ℕ → ℕ) (x place : ℕ) → moved home x place x ≡ place
unfolding moved
moved_own home x place = rw (eq-eqb x x refl)

pub moved_else : (home : ℕ → ℕ) (x place y : ℕ) → (y ≡ x → ⊥) → moved home x place y ≡ home y
unfolding moved
moved_else home x place y not = rw (ne_eqb y x not)

module _ (home : ℕ → ℕ) (h x y : ℕ) where
  pub comes : home x ≡ 0 → same (home y) (suc h) + same y x ≡ same (moved home x (suc h) y) (suc h)
  comes nowhere = go (ℕ_discrete y x)
    where
      go : Dec (y ≡ x) → same (home y) (suc h) + same y x ≡ same (moved home x (suc h) y) (suc h)
      go (yes is) =
          rw (is, moved_own home x (suc h), same_yes x x refl, same_yes (suc h) (suc h) refl, same_no (home x) (suc h) (λ e. omega arith))
      go (no not) = rw (moved_else home x (suc h) y not) (omega (arith, same_no y x not))

  pub goes : home x ≡ suc h → same (home y) (suc h) ≡ same y x + same (moved home x 0 y) (suc h)
  goes here = go (ℕ_discrete y x)
    where
      go : Dec (y ≡ x) → same (home y) (suc h) ≡ same y x + same (moved home x 0 y) (suc h)
      go (yes is) =
          rw (is, moved_own home x 0, same_yes x x refl, same_yes (home x) (suc h) here, same_no 0 (suc h) (λ e. omega arith))
      go (no not) = rw (moved_else home x 0 y not) (omega (arith, same_no y x not))

-- x moves, neither from heap q nor to it
pub elsewhere : (home : ℕ → ℕ) (x place q y : ℕ) → (home x ≡ suc q → ⊥) → (place ≡ suc q → ⊥)
    → same (home y) (suc q) ≡ same (moved home x place y) (suc q)
elsewhere home x place q y not_from not_to = go (ℕ_discrete y x)
  where
    go : Dec (y ≡ x) → same (home y) (suc q) ≡ same (moved home x place y) (suc q)
    go (yes is) = rw (is, moved_own home x place, same_no (home x) (suc q) not_from, same_no place (suc q) not_to)
    go (no not) = rw (moved_else home x place y not)

-- another order that agrees on what is in a tree
ordered_same : (one two : ℕ → ℕ → Bool) (t : Tree) → ((x y : ℕ) → 0 < count t x → 0 < count t y → two x y ≡ one x y)
    → Ordered one t → Ordered two t
unfolding Ordered count
ordered_same one two tip agree ordered = ordered
ordered_same one two (fork k s t) agree ordered =
    let own = same_yes k k refl in (
      (λ y some. agree y k (omega arith) (omega arith) ∙ ordered.0 y some),
      (λ y some. agree y k (omega arith) (omega arith) ∙ ordered.1 y some),
      ordered_same one two s (λ x y a b. agree x y (omega arith) (omega arith)) ordered.2,
      ordered_same one two t (λ x y a b. agree x y (omega arith) (omega arith)) ordered.3,
    )

module _ (before : ℕ → ℕ → Bool) (l : Links) (root h : ℕ) (home : ℕ → ℕ) (heap : Heap before l root h home) where
  -- what is in a heap is at home there, and what is at home there is in it
  pub at_home : (x : ℕ) → 0 < count heap.tree x → home x ≡ suc h
  at_home x some = same_only (home x) (suc h) (let is = heap.members x in omega arith)

  pub in_heap : (x : ℕ) → home x ≡ suc h → count heap.tree x ≡ 1
  in_heap x here = heap.members x ∙ same_yes (home x) (suc h) here

  pub reordered_heap : (two : ℕ → ℕ → Bool) → ((x y : ℕ) → home x ≡ suc h → home y ≡ suc h → two x y ≡ before x y) → Heap two l root h home
  reordered_heap two agree =
      record {
        tree = heap.tree;
        shaped = heap.shaped;
        ordered = ordered_same before two heap.tree (λ x y a b. agree x y (at_home x a) (at_home y b)) heap.ordered;
        members = heap.members;
      }

  pub rehomed_heap : (home' : ℕ → ℕ) → ((x : ℕ) → same (home x) (suc h) ≡ same (home' x) (suc h)) → Heap before l root h home'
  rehomed_heap home' agree =
      record { tree = heap.tree; shaped = heap.shaped; ordered = heap.ordered; members = λ x. heap.members x ∙ agree x }

-- the same links, each heap seen in another way
pub seen : (one two : ℕ → ℕ → ℕ → Bool) (f : Forest) (home home' : ℕ → ℕ)
    → ((h : ℕ) → h < most_heaps → Heap (one h) f.links (top f h) h home → Heap (two h) f.links (top f h) h home')
    → Heaps one f home → Heaps two f home'
seen one two f home home' each heaps =
    record { roots_full = heaps.roots_full; full = heaps.full; heap = λ h inside. each h inside (heaps.heap h inside) }
