-- Children become eligible one by one: each turn moves one out of the heap of those that wait for their start, so none is left that has started.
-- Assumes nothing.
use Prim.Native.Nat.{ℕ, zero, suc, ◌+◌, ◌≤◌, ◌<◌}
use mathlib.Core.Path.{◌≡◌, refl, sym, ◌∙◌}
use mathlib.Core.Bool.{Bool, true, false, cond, not, ◌&&◌, and-eq-true_iff}
use mathlib.Core.List.{List}
use native.Mathlib.Decide.{ℕ_discrete}
use native.Mathlib.Omega.{arith}
use lib.Dec.{eqb, leb}
use lib.ListN.{get_or}
use borrow.Author.Tests.{eq-eqb, ne_eqb, eqb-false, not-true, le-leb, lt-leb, leb-true, leb-false, lt-ltb, le-ltb}
use Rattle.input.specs.Limits.{most_rows}
use Rattle.heaps.specs.Order.{before}
use Rattle.heaps.specs.Trees.{same}
use Rattle.heaps.specs.Heaps.{Forest, top, Heaps, Foremost, moved, parted}
use Rattle.heaps.proofs.Orders.{before_keys}
use Rattle.heaps.proofs.Counting.{same_yes, same_most, ones, ones_one}
use Rattle.heaps.proofs.Homes.{moved_own, moved_else, goes, elsewhere}
use Rattle.heaps.proofs.Laws.{joins, first_of, parts, heaps_same, low}
use Rattle.waiting.specs.Waiting.{order_of, eligible_heap, started, due, ripens, ripened}

-- ── the orders of the two heaps of p ──

module _ (starts finishes heads : List ℕ) (p : ℕ) where
  pub by_start : p < most_rows → (x y : ℕ) → order_of starts finishes heads p x y ≡ before starts heads x y
  unfolding order_of
  by_start inside x y = rw (lt-ltb p most_rows inside)

  pub by_finish : (x y : ℕ) → order_of starts finishes heads (eligible_heap p) x y ≡ before finishes heads x y
  unfolding order_of
  by_finish x y = rw (le-ltb (eligible_heap p) most_rows (omega arith))

-- ── who has started ──

module _ (starts : List ℕ) (v k : ℕ) where
  started_yes : started starts v k ≡ true → (0 < k) × (get_or starts k 0 ≤ v)
  unfolding started
  started_yes is =
      let both = (and-eq-true_iff (not (eqb k 0)) (leb (get_or starts k 0) v)).0 is in
      let some = eqb-false k 0 (not-true (eqb k 0) both.0) in
      (omega arith, leb-true (get_or starts k 0) v both.1)

  started_no : started starts v k ≡ false → (k ≡ 0 → ⊥) → v < get_or starts k 0
  unfolding started
  started_no is some = leb-false (get_or starts k 0) v (rw (ne_eqb k 0 some) at is)

-- ── how many are at home in heap h ──

-- of the numbers below n
held : ℕ → ℕ → (ℕ → ℕ) → ℕ
held zero h home = 0
held (suc n) h home = held n h home + same (home n) (suc h)

held_most : (n h : ℕ) (home : ℕ → ℕ) → held n h home ≤ n
unfolding held
held_most zero h home = omega arith
held_most (suc n) h home = let less = held_most n h home in let one = same_most (home n) (suc h) in omega arith

held_none : (n h x : ℕ) (home : ℕ → ℕ) → held n h home ≡ 0 → x < n → home x ≡ suc h → ⊥
unfolding held
held_none zero h x home none inside here = omega arith
held_none (suc n) h x home none inside here = go (held_none n h x home) (ℕ_discrete x n)
  where
    go : (held n h home ≡ 0 → x < n → home x ≡ suc h → ⊥) → Dec (x ≡ n) → ⊥
    go below (yes is) = let one = same_yes (home n) (suc h) (rw (← is) here) in omega arith
    go below (no other) = below (omega arith) (omega arith) here

-- k goes over to another heap
over : (ℕ → ℕ) → ℕ → ℕ → ℕ → ℕ
over home k e = moved (moved home k 0) k (suc e)

module _ (h e k : ℕ) (apart : h ≡ e → ⊥) (home : ℕ → ℕ) (here : home k ≡ suc h) where
  held_sum : (n : ℕ) → held n h home ≡ ones n k + held n h (over home k e)
  unfolding held ones over
  held_sum zero = refl
  held_sum (suc n) =
      let less = held_sum n in
      let gone = goes home h k n here in
      let stays = elsewhere (moved home k 0) k (suc e) h n (λ is. absurd (omega (arith, moved_own home k 0))) (λ is. apart (omega arith)) in
      omega arith

  held_less : (n : ℕ) → k < n → held n h home ≡ suc (held n h (over home k e))
  held_less n inside = let all = held_sum n in let one = ones_one n k inside in omega arith

-- ── the homes once all that have started are eligible ──

unfoldable pub ripe_home : List ℕ → ℕ → ℕ → (ℕ → ℕ) → ℕ → ℕ
ripe_home starts p v home x = cond (eqb (home x) (suc p) && leb (get_or starts x 0) v) (suc (eligible_heap p)) (home x)

module _ (starts : List ℕ) (p v : ℕ) (home : ℕ → ℕ) (x : ℕ) where
  pub ripe_moves : home x ≡ suc p → get_or starts x 0 ≤ v → ripe_home starts p v home x ≡ suc (eligible_heap p)
  unfolding ripe_home
  ripe_moves here early = rw (eq-eqb (home x) (suc p) here, le-leb (get_or starts x 0) v early)

  pub ripe_stays : (home x ≡ suc p → v < get_or starts x 0) → ripe_home starts p v home x ≡ home x
  unfolding ripe_home
  ripe_stays late = go (ℕ_discrete (home x) (suc p))
    where
      go : Dec (home x ≡ suc p) → cond (eqb (home x) (suc p) && leb (get_or starts x 0) v) (suc (eligible_heap p)) (home x) ≡ home x
      go (yes here) = rw (eq-eqb (home x) (suc p) here, lt-leb (get_or starts x 0) v (late here))
      go (no other) = rw (ne_eqb (home x) (suc p) other)

-- who goes over on the way is where it is in the end
ripe_over : (starts : List ℕ) (p v : ℕ) (home : ℕ → ℕ) (k : ℕ) → home k ≡ suc p → get_or starts k 0 ≤ v
    → (x : ℕ) → ripe_home starts p v (over home k (eligible_heap p)) x ≡ ripe_home starts p v home x
unfolding over ripe_home
ripe_over starts p v home k here early x = go (ℕ_discrete x k)
  where
    at : ℕ → ℕ
    at = moved (moved home k 0) k (suc (eligible_heap p))

    go : Dec (x ≡ k) → ripe_home starts p v at x ≡ ripe_home starts p v home x
    go (yes is) =
        let there = moved_own (moved home k 0) k (suc (eligible_heap p)) in
        rw (is, ripe_moves starts p v home k here early) (ripe_stays starts p v at k (λ back. absurd (omega arith)) ∙ there)
    go (no other) = rw (moved_else (moved home k 0) k (suc (eligible_heap p)) x other, moved_else home k 0 x other)

module _ (starts finishes heads : List ℕ) (p v : ℕ) (inside : p < most_rows) where
  abbrev order : ℕ → ℕ → ℕ → Bool
  order = order_of starts finishes heads

  module _ (f : Forest) (home : ℕ → ℕ) (heaps : Heaps order f home) where
    first : Foremost (before starts heads) p (top f p) home
    first = first_of starts heads order p f home (by_start starts finishes heads p inside) (omega arith) heaps

    turn : due starts p v f ≡ true → Heaps order (ripens starts finishes heads p f) (over home (top f p) (eligible_heap p))
    unfolding ripens over
    turn is =
        let k = started_yes starts v (top f p) is in
        let inside_k = low order f home heaps p (top f p) (omega arith) (first.member k.0) in
        joins finishes heads order (eligible_heap p) (top f p) (parted (before starts heads) p f) (moved home (top f p) 0)
        (by_finish starts finishes heads p) (omega arith) inside_k.0 inside_k.1 (moved_own home (top f p) 0)
        (parts starts heads order p f home (by_start starts finishes heads p inside) (omega arith) heaps)

    none_due : due starts p v f ≡ false → (x : ℕ) → home x ≡ suc p → v < get_or starts x 0
    none_due is x here = go (ℕ_discrete (top f p) 0)
      where
        go : Dec (top f p ≡ 0) → v < get_or starts x 0
        go (yes none) = absurd (first.none none x here)
        go (no some) =
            let late = started_no starts v (top f p) is some in
            let least = before_keys starts heads x (top f p) (first.first (omega arith) x here) in
            omega arith

    none_ripe : ((x : ℕ) → home x ≡ suc p → v < get_or starts x 0) → Heaps order f (ripe_home starts p v home)
    none_ripe late = heaps_same order f home (ripe_home starts p v home) (λ x. sym (ripe_stays starts p v home x (late x))) heaps

  ripened_heaps : (n : ℕ) (f : Forest) (home : ℕ → ℕ) → Heaps order f home → held most_rows p home ≤ n
      → Heaps order (ripened n starts finishes heads p v f) (ripe_home starts p v home)
  unfolding ripened
  ripened_heaps zero f home heaps few =
      none_ripe f home heaps
      (λ x here.
      absurd (held_none most_rows p x home (omega arith) (low order f home heaps p x (omega arith) here).1 here))
  ripened_heaps (suc n) f home heaps few =
      go (ripened_heaps n (ripens starts finishes heads p f) (over home (top f p) (eligible_heap p))) (due starts p v f) refl
    where
      go :
          (Heaps order (ripens starts finishes heads p f) (over home (top f p) (eligible_heap p))
          → held most_rows p (over home (top f p) (eligible_heap p)) ≤ n
          → Heaps order (ripened n starts finishes heads p v (ripens starts finishes heads p f))
          (ripe_home starts p v (over home (top f p) (eligible_heap p))))
          → (b : Bool) → due starts p v f ≡ b
          → Heaps order (cond (due starts p v f) (ripened n starts finishes heads p v (ripens starts finishes heads p f)) f) (ripe_home starts p v home)
      go rest false is = rw is (none_ripe f home heaps (none_due f home heaps is))
      go rest true is =
          let k = started_yes starts v (top f p) is in
          let here = (first f home heaps).member k.0 in
          let less =
          held_less p (eligible_heap p) (top f p) (λ e. omega arith) home here most_rows
          (low order f home heaps p (top f p) (omega arith) here).1 in
          rw is
          (heaps_same order _ _ _ (ripe_over starts p v home (top f p) here k.1) (rest (turn f home heaps is) (omega arith)))

  pub all_ripe : (f : Forest) (home : ℕ → ℕ) → Heaps order f home
      → Heaps order (ripened most_rows starts finishes heads p v f) (ripe_home starts p v home)
  all_ripe f home heaps = ripened_heaps most_rows f home heaps (held_most most_rows p home)
