-- The laws of the heaps: what a number that joins and a first that leaves make of them, and which changes they stand.
-- Assumes nothing.
use Prim.Native.Nat.{ℕ, suc, ◌<◌}
use mathlib.Core.Bool.{Bool}
use mathlib.Core.Path.{◌≡◌, sym, ap}
use mathlib.Core.List.{List}
use native.Mathlib.Omega.{arith}
use lib.ListN.{replicate, length-replicate, get_or-replicate}
use Rattle.heaps.specs.Sizes.{most_members, most_heaps}
use Rattle.heaps.specs.Order.{before}
use Rattle.heaps.specs.Trees.{tip, same, count, Ordered}
use Rattle.heaps.specs.Links.{Shaped}
use Rattle.heaps.specs.Heaps.{Forest, forest, top, Heaps, Foremost, moved, joined, parted}
use Rattle.heaps.proofs.Counting.{same_no}
use Rattle.heaps.proofs.Orders.{before_whole, before_chain}
use Rattle.heaps.proofs.Homes.{reordered_heap, rehomed_heap, seen}
use Rattle.heaps.proofs.Joining as joining

-- ── heap h has the order by keys and ties ──

-- x joins it
pub joins : (keys ties : List ℕ) (order : ℕ → ℕ → ℕ → Bool) (h x : ℕ) (f : Forest) (home : ℕ → ℕ)
    → ((a b : ℕ) → order h a b ≡ before keys ties a b) → h < most_heaps → 0 < x → x < most_members → home x ≡ 0
    → Heaps order f home → Heaps order (joined (before keys ties) h x f) (moved home x (suc h))
joins keys ties order h x f home agree inside positive low nowhere heaps =
    joining.joined_heaps (before keys ties) (before_chain keys ties) (before_whole keys ties) order f home heaps h inside agree x positive low nowhere

-- its root is its first
pub first_of : (keys ties : List ℕ) (order : ℕ → ℕ → ℕ → Bool) (h : ℕ) (f : Forest) (home : ℕ → ℕ)
    → ((a b : ℕ) → order h a b ≡ before keys ties a b) → h < most_heaps
    → Heaps order f home → Foremost (before keys ties) h (top f h) home
first_of keys ties order h f home agree inside heaps =
    joining.foremost (before keys ties) (before_chain keys ties) (before_whole keys ties) order f home heaps h inside agree

-- and its root leaves it
pub parts : (keys ties : List ℕ) (order : ℕ → ℕ → ℕ → Bool) (h : ℕ) (f : Forest) (home : ℕ → ℕ)
    → ((a b : ℕ) → order h a b ≡ before keys ties a b) → h < most_heaps
    → Heaps order f home → Heaps order (parted (before keys ties) h f) (moved home (top f h) 0)
parts keys ties order h f home agree inside heaps =
    joining.parted_heaps (before keys ties) (before_chain keys ties) (before_whole keys ties) order f home heaps h inside agree

-- ── all heaps ──

-- the orders may change, so long as each agrees on what its heap has
pub reordered : (one two : ℕ → ℕ → ℕ → Bool) (f : Forest) (home : ℕ → ℕ)
    → ((h x y : ℕ) → home x ≡ suc h → home y ≡ suc h → two h x y ≡ one h x y) → Heaps one f home → Heaps two f home
reordered one two f home agree =
    seen one two f home home (λ h inside heap. reordered_heap (one h) f.links (top f h) h home heap (two h) (agree h))

-- the same homes by other names
pub heaps_same : (order : ℕ → ℕ → ℕ → Bool) (f : Forest) (home home' : ℕ → ℕ) → ((x : ℕ) → home x ≡ home' x)
    → Heaps order f home → Heaps order f home'
heaps_same order f home home' agree =
    seen order order f home home'
    (λ h inside heap. rehomed_heap (order h) f.links (top f h) h home heap home' (λ x. ap (λ (k : ℕ). same k (suc h)) (agree x)))

-- where all is 0 nothing is in a heap
pub none_in : (order : ℕ → ℕ → ℕ → Bool)
    → Heaps order (forest (replicate most_heaps 0) (replicate most_members 0) (replicate most_members 0)) (λ (x : ℕ). 0)
unfolding Shaped Ordered count
none_in order =
    let entries = length-replicate {A = ℕ} most_members 0 in
    record {
      roots_full = length-replicate {A = ℕ} most_heaps 0;
      full = record { left_full = entries; right_full = entries };
      heap = λ h inside.
          record {
            tree = tip;
            shaped = get_or-replicate most_heaps h 0 0 inside;
            ordered = tt;
            members = λ x. sym (same_no 0 (suc h) (λ e. omega arith));
          };
    }

-- what is at home in a heap is one of the numbers, and not 0
pub low : (order : ℕ → ℕ → ℕ → Bool) (f : Forest) (home : ℕ → ℕ) → Heaps order f home
    → (h x : ℕ) → h < most_heaps → home x ≡ suc h → (0 < x) × (x < most_members)
low = joining.low_home
