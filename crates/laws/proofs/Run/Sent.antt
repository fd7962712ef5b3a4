-- The packets of the order: each word names an arrival of the list for a sending class; so the line's bytes are a plain sum of lengths.
-- Assumes nothing.
use Prim.Native.Nat.{ℕ, zero, suc, ◌≤◌, ◌<◌}
use mathlib.Core.Path.{◌≡◌, refl, sym, subst}
use mathlib.Core.Logic.{◌⊎◌, inl, inr}
use mathlib.Core.Bool.{Bool, true, false, cond}
use mathlib.Core.List.{List, [], ◌∷◌, ◌++◌}
use native.Mathlib.Omega.{arith}
use lib.ListN.{length, get_or, take, drop}
use Rattle.input.specs.declared.Event.TheVariants.{Finish}
use Rattle.input.specs.Classes.{Tree}
use Rattle.input.specs.Events.{Events, event}
use Rattle.rules.specs.Steps.{after}
use Rattle.rules.specs.Promise.{for_part, finish_count, bytes_for, line_bytes, finished, finished_in}
use Rattle.laws.specs.Sound.{Sound}
use Rattle.laws.specs.History.{Accepted, arrivals_of, only_for}
use Rattle.laws.proofs.Tree.Paths.{root_within, self_within}
use Rattle.laws.proofs.Event.Turns.{class_at, Arrives, met}
use Rattle.laws.proofs.Run.Orders.{All, all_append, arrivals_finish, arrivals_own, arrivals_other}
use Rattle.laws.proofs.Run.Counting.{ForSender, order_sent, order_first}

-- ── what every entry of a list has ──

module _ {A : Type 0} (has : A → Type 0) where
  all_at : (xs : List A) (i : ℕ) (d : A) → All has xs → i < length xs → has (get_or xs i d)
  all_at [] i d all inside = absurd (omega arith)
  all_at (x ∷ xs) zero d (here, more) inside = here
  all_at (x ∷ xs) (suc i) d (here, more) inside = all_at xs i d more (omega arith)

  all_take : (n : ℕ) (xs : List A) → All has xs → All has (take n xs)
  all_take zero xs all = tt
  all_take (suc n) [] all = tt
  all_take (suc n) (x ∷ xs) (here, more) = (here, all_take n xs more)

  all_drop : (n : ℕ) (xs : List A) → All has xs → All has (drop n xs)
  all_drop zero xs all = all
  all_drop (suc n) [] all = tt
  all_drop (suc n) (x ∷ xs) (here, more) = all_drop n xs more

  all_front : (xs ys : List A) → All has (xs ++ ys) → All has xs
  all_front [] ys all = tt
  all_front (x ∷ xs) ys (here, more) = (here, all_front xs ys more)

  all_rest : (b : Bool) (x : A) (xs : List A) → All has (cond b (x ∷ xs) xs) → All has xs
  all_rest true x xs (here, more) = more
  all_rest false x xs all = all

-- what the packets of a part have, a packet of that part has
only_has :
    (tree : Tree) (events : Events) (r : ℕ) (has : ℕ → Type 0) (xs : List ℕ) (i : ℕ) → All has (only_for tree events r xs) → i < length xs
    → for_part tree events r (get_or xs i 0) ≡ true → has (get_or xs i 0)
unfolding only_for
only_has tree events r has [] i all inside own = absurd (omega arith)
only_has tree events r has (x ∷ xs) zero all inside own =
    let first : All has (x ∷ only_for tree events r xs) = rw own at all in
    first.0
only_has tree events r has (x ∷ xs) (suc i) all inside own =
    only_has tree events r has xs i (all_rest has (for_part tree events r x) x (only_for tree events r xs) all) (omega arith) own

-- ── arrivals ──

module _ (tree : Tree) (events : Events) (last : ℕ) where
  -- an arrival among the first events
  abbrev Arrived : ℕ → Type 0
  Arrived i = (i < last) × Arrives events i

  arrived_next : (k n : ℕ) → n < last → All Arrived (arrivals_of tree events k n) → All Arrived (arrivals_of tree events k (suc n))
  arrived_next k n before so_far = go (met events n) (for_part tree events k n) refl
    where
      go : Arrives events n ⊎ (event events n ≡ Finish) → (b : Bool) → for_part tree events k n ≡ b → All Arrived (arrivals_of tree events k (suc n))
      go (inl is) true own =
          rw (arrivals_own tree events k n _ _ is own) (all_append Arrived (arrivals_of tree events k n) (n ∷ []) so_far ((before, is), tt))
      go (inl is) false other = rw (arrivals_other tree events k n other) so_far
      go (inr is) b part = rw (arrivals_finish tree events k n is) so_far

  all_arrived : (k n : ℕ) → n ≤ last → All Arrived (arrivals_of tree events k n)
  unfolding arrivals_of
  all_arrived k zero earlier = tt
  all_arrived k (suc n) earlier = arrived_next k n earlier (all_arrived k n (omega arith))

  module _ (ok : Accepted tree events last) where
    -- each word of the order
    pub order_arrived :
        (i : ℕ) → i < length (after tree events last).order
        → (get_or (after tree events last).order i 0 < last) × Arrives events (get_or (after tree events last).order i 0)
        × ForSender tree events (get_or (after tree events last).order i 0)
    unfolding for_part
    order_arrived i inside =
        let order = (after tree events last).order in
        let sends = all_at (ForSender tree events) order i 0 (order_sent tree events last ok) inside in
        let k = class_at tree events (get_or order i 0) in
        let first = order_first tree events last ok k sends in
        let all =
        all_front Arrived (only_for tree events k order) first.0
        (subst (λ (xs : List ℕ). All Arrived xs) (sym first.1) (all_arrived k last (omega arith))) in
        let its = only_has tree events k Arrived order i all inside (self_within tree ok.sound k) in
        (its.0, its.1, sends)

-- ── bytes ──

-- every packet of a sending class is in the root's part
all_bytes : (tree : Tree) → Sound tree → (events : Events) (xs : List ℕ) → All (ForSender tree events) xs → bytes_for tree events 0 xs ≡ line_bytes events xs
unfolding bytes_for line_bytes for_part
all_bytes tree sound events [] all = refl
all_bytes tree sound events (x ∷ xs) (here, all) =
    rw (root_within tree sound (class_at tree events x) here.inside) (omega (arith, all_bytes tree sound events xs all))

-- the bytes that the line finished in a stretch are those of the packets finished in it
pub line_counted :
    (tree : Tree) (events : Events) (last : ℕ) → Accepted tree events last → (a b : ℕ)
    → bytes_for tree events 0 (finished_in events (after tree events last).order a b)
    ≡ line_bytes events (finished_in events (after tree events last).order a b)
unfolding finished finished_in
line_counted tree events last ok a b =
    all_bytes tree ok.sound events _
    (all_drop (ForSender tree events) (finish_count events a) _
    (all_take (ForSender tree events) (finish_count events b) _ (order_sent tree events last ok)))
