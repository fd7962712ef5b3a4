-- Lists of packets: what is counted in a list that has grown, and lists that name packets in the order of their arrival.
-- Assumes nothing.
use Prim.Native.Nat.{ℕ, zero, suc, ◌+◌, ◌-◌, ◌≤◌, ◌<◌}
use mathlib.Core.Path.{◌≡◌, refl, sym, ap, ◌∙◌}
use mathlib.Core.Bool.{Bool, true, false, cond}
use mathlib.Core.List.{List, [], ◌∷◌, ◌++◌, append-nil, append_assoc}
use native.Mathlib.Omega.{arith}
use lib.ListN.{length, get_or, take, drop, length-drop}
use lib.Seq.{split_at, get_or-drop}
use Rattle.input.specs.declared.Event.{Event}
use Rattle.input.specs.declared.Event.TheVariants.{Arrival, Finish}
use Rattle.input.specs.Classes.{Tree}
use Rattle.input.specs.Events.{Events, length_word, event}
use Rattle.rules.specs.Promise.{for_part, packets_for, bytes_for}
use Rattle.laws.specs.History.{arrivals_of, only_for}
use Rattle.laws.proofs.Path.Tests.{cond_self}

-- ── lists ──

-- every entry has the property
abbrev pub All : {A : Type 0} → (A → Type 0) → List A → Type 0
All has [] = Unit
All has (x ∷ xs) = has x × All has xs

module _ {A : Type 0} (has : A → Type 0) where
  pub all_append : (xs ys : List A) → All has xs → All has ys → All has (xs ++ ys)
  all_append [] ys one two = two
  all_append (x ∷ xs) ys (here, one) two = (here, all_append xs ys one two)

  pub all_middle : (xs : List A) (y : A) (ys : List A) → All has (xs ++ y ∷ ys) → has y
  all_middle [] y ys (here, more) = here
  all_middle (x ∷ xs) y ys (here, more) = all_middle xs y ys more

-- a list with the same entry at two places
pub twice :
    (xs : List ℕ) (i j : ℕ) → i < j → j < length xs → get_or xs i 0 ≡ get_or xs j 0
    → (front middle back : List ℕ) × (xs ≡ front ++ get_or xs i 0 ∷ (middle ++ get_or xs i 0 ∷ back))
twice xs i j before inside same =
    let rest = drop (suc i) xs in
    let gap = j - suc i in
    let long : gap < length rest = simp length-drop (omega arith) in
    let at = get_or-drop (suc i) xs gap 0 ∙ ap (λ (h : ℕ). get_or xs h 0) (omega arith) ∙ sym same in
    let parts = split_at rest gap 0 long ∙ ap (λ (x : ℕ). take gap rest ++ x ∷ drop (suc gap) rest) at in
    let whole = split_at xs i 0 (omega arith) ∙ ap (λ (l : List ℕ). take i xs ++ get_or xs i 0 ∷ l) parts in
    (take i xs, take gap rest, drop (suc gap) rest, whole)

-- ── counting in a list that has grown ──

module _ (tree : Tree) (events : Events) (r : ℕ) where
  pub packets_last : (xs : List ℕ) (i : ℕ) → packets_for tree events r (xs ++ i ∷ []) ≡ packets_for tree events r xs + cond (for_part tree events r i) 1 0
  unfolding packets_for
  packets_last [] i = omega arith
  packets_last (x ∷ xs) i = let rest = packets_last xs i in omega arith

  pub bytes_last :
      (xs : List ℕ) (i : ℕ)
      → bytes_for tree events r (xs ++ i ∷ []) ≡ bytes_for tree events r xs + cond (for_part tree events r i) (length_word events i) 0
  unfolding bytes_for
  bytes_last [] i = omega arith
  bytes_last (x ∷ xs) i = let rest = bytes_last xs i in omega arith

  kept_or_left : (b : Bool) (x : ℕ) (zs us vs : List ℕ) → zs ≡ us ++ vs → cond b (x ∷ zs) zs ≡ cond b (x ∷ us) us ++ vs
  kept_or_left true x zs us vs same = ap (λ (l : List ℕ). x ∷ l) same
  kept_or_left false x zs us vs same = same

  only_append : (xs ys : List ℕ) → only_for tree events r (xs ++ ys) ≡ only_for tree events r xs ++ only_for tree events r ys
  unfolding only_for
  only_append [] ys = refl
  only_append (x ∷ xs) ys = kept_or_left (for_part tree events r x) x _ _ _ (only_append xs ys)

  only_first : (i : ℕ) (xs : List ℕ) → for_part tree events r i ≡ true → only_for tree events r (i ∷ xs) ≡ i ∷ only_for tree events r xs
  unfolding only_for
  only_first i xs is = rw is

  pub only_last : (xs : List ℕ) (i : ℕ) → for_part tree events r i ≡ true → only_for tree events r (xs ++ i ∷ []) ≡ only_for tree events r xs ++ i ∷ []
  unfolding only_for
  only_last xs i is = only_append xs (i ∷ []) ∙ rw is

  pub only_other : (xs : List ℕ) (i : ℕ) → for_part tree events r i ≡ false → only_for tree events r (xs ++ i ∷ []) ≡ only_for tree events r xs
  unfolding only_for
  only_other xs i is = only_append xs (i ∷ []) ∙ rw (is, append-nil)

-- ── ascending lists ──

-- ascending, from `least` on and below `now`
abbrev pub Ascending : ℕ → ℕ → List ℕ → Type 0
Ascending least now [] = least ≤ now
Ascending least now (x ∷ xs) = (least ≤ x) × Ascending (suc x) now xs

module _ (now : ℕ) where
  ascending_later : (least : ℕ) (xs : List ℕ) → Ascending least now xs → Ascending least (suc now) xs
  ascending_later least [] up = omega arith
  ascending_later least (x ∷ xs) (first, up) = (first, ascending_later (suc x) xs up)

  ascending_last : (least : ℕ) (xs : List ℕ) → Ascending least now xs → Ascending least (suc now) (xs ++ now ∷ [])
  ascending_last least [] up = (up, omega arith)
  ascending_last least (x ∷ xs) (first, up) = (first, ascending_last (suc x) xs up)

  ascending_least : (least : ℕ) (xs : List ℕ) (y : ℕ) (ys : List ℕ) → Ascending least now (xs ++ y ∷ ys) → least ≤ y
  ascending_least least [] y ys (first, up) = first
  ascending_least least (x ∷ xs) y ys (first, up) = let more = ascending_least (suc x) xs y ys up in omega arith

  -- no entry stands at two places
  ascending_once : (least : ℕ) (xs : List ℕ) (y : ℕ) (ys zs : List ℕ) → Ascending least now (xs ++ y ∷ (ys ++ y ∷ zs)) → ⊥
  ascending_once least [] y ys zs (first, up) = let more = ascending_least (suc y) ys y zs up in omega arith
  ascending_once least (x ∷ xs) y ys zs (first, up) = ascending_once (suc x) xs y ys zs up

-- packets of one part in ascending order: none stands in the whole list at two places
pub only_twice :
    (tree : Tree) (events : Events) (r now : ℕ) (front : List ℕ) (x : ℕ) (middle back rest : List ℕ) → for_part tree events r x ≡ true
    → Ascending 0 now (only_for tree events r (front ++ x ∷ (middle ++ x ∷ back)) ++ rest) → ⊥
only_twice tree events r now front x middle back rest is up =
    ascending_once now 0 (only_for tree events r front) x (only_for tree events r middle) (only_for tree events r back ++ rest)
    (simp (only_append, only_first tree events r x (middle ++ x ∷ back) is, only_first tree events r x back is, append_assoc) at up)

-- ── a class's arrivals ──

module _ (tree : Tree) (events : Events) (k n : ℕ) where
  pub arrivals_finish : event events n ≡ Finish → arrivals_of tree events k (suc n) ≡ arrivals_of tree events k n
  unfolding arrivals_of
  arrivals_finish is = rw (is, cond_self, append-nil)

  pub arrivals_own :
      (class length : ℕ) → event events n ≡ Arrival class length → for_part tree events k n ≡ true
      → arrivals_of tree events k (suc n) ≡ arrivals_of tree events k n ++ n ∷ []
  unfolding arrivals_of
  arrivals_own class length is own = rw (is, own)

  pub arrivals_other : for_part tree events k n ≡ false → arrivals_of tree events k (suc n) ≡ arrivals_of tree events k n
  unfolding arrivals_of
  arrivals_other other = rw (other, append-nil)

  ascend_next : Ascending 0 n (arrivals_of tree events k n) → Ascending 0 (suc n) (arrivals_of tree events k (suc n))
  ascend_next so_far = go (event events n) refl (for_part tree events k n) refl
    where
      go : (e : Event) → event events n ≡ e → (b : Bool) → for_part tree events k n ≡ b → Ascending 0 (suc n) (arrivals_of tree events k (suc n))
      go (Arrival class length) is true own = rw (arrivals_own class length is own) (ascending_last n 0 (arrivals_of tree events k n) so_far)
      go (Arrival class length) is false other = rw (arrivals_other other) (ascending_later n 0 (arrivals_of tree events k n) so_far)
      go Finish is b part = rw (arrivals_finish is) (ascending_later n 0 (arrivals_of tree events k n) so_far)

pub arrivals_ascend : (tree : Tree) (events : Events) (k n : ℕ) → Ascending 0 n (arrivals_of tree events k n)
unfolding arrivals_of
arrivals_ascend tree events k zero = omega arith
arrivals_ascend tree events k (suc n) = ascend_next tree events k n (arrivals_ascend tree events k n)
