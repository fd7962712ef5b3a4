-- Identifiers on the air: the modem cuts none of an accepted table, so no two rows of it are one out there.
-- Assumes nothing.
use Prim.Native.Nat.{ℕ, zero, suc, ◌≤◌, ◌<◌}
use mathlib.Core.Path.{◌≡◌, refl, sym, ◌∙◌, ap₂}
use mathlib.Core.Logic.{◌≢◌}
use mathlib.Core.Bool.{Bool, true, false, cond}
use mathlib.Core.List.{List, [], ◌∷◌, map}
use native.Mathlib.Omega.{arith}
use lib.Dec.{ltb, eqb}
use lib.ListN.{length, get_or, take}
use lib.Seq.{get_or-take, length-take-le}
use borrow.Author.Tests.{ltb-true, ltb-false, eqb-true, eqb-false, eq-eqb}
use Rattle.input.specs.Limits.{most_identifier}
use Rattle.input.specs.Classes.{Table, place_of, earlier, on_air}
use Rattle.input.specs.Refusals.{nothing, doubled, root_refused, class_refused, row_refused, table_refused}
use Rattle.laws.specs.Sound.{ApartOnAir}
use Rattle.laws.proofs.Tree.Trees.{first_none, given_none, row_passes}

-- 15 refuses exactly what the modem would change: nothing up to the largest identifier, and everything above it
pub as_it_is : (identifier : ℕ) → identifier ≤ most_identifier → on_air identifier ≡ identifier
unfolding on_air
as_it_is identifier small = omega arith

pub cut_down : (identifier : ℕ) → most_identifier < identifier → on_air identifier < identifier
unfolding on_air
cut_down identifier large = omega arith

-- a number is not found after a place where it stands
place_before : (x : ℕ) (ys : List ℕ) (j : ℕ) → j < length ys → get_or ys j 0 ≡ x → place_of x ys ≤ j
unfolding place_of
place_before x [] j inside here = absurd (omega arith)
place_before x (y ∷ ys) zero inside here = rw (eq-eqb x y (sym here)) (omega arith)
place_before x (y ∷ ys) (suc j) inside here = go (eqb x y) (place_before x ys j (omega arith) here)
  where
    go : (b : Bool) → place_of x ys ≤ j → cond b 0 (suc (place_of x ys)) ≤ suc j
    go true before = omega arith
    go false before = omega arith

-- and where it is found it stands
place_here : (x : ℕ) (ys : List ℕ) → place_of x ys < length ys → get_or ys (place_of x ys) 0 ≡ x
unfolding place_of
place_here x [] inside = absurd (omega arith)
place_here x (y ∷ ys) inside = go (eqb x y) refl (place_here x ys) inside
  where
    go :
        (b : Bool) → eqb x y ≡ b → (place_of x ys < length ys → get_or ys (place_of x ys) 0 ≡ x)
        → cond b 0 (suc (place_of x ys)) < suc (length ys) → get_or (y ∷ ys) (cond b 0 (suc (place_of x ys))) 0 ≡ x
    go true same later inside = sym (eqb-true x y same)
    go false other later inside = later (omega arith)

-- nothing is doubled where an identifier has no earlier row
doubled_none : (r other : ℕ) → (doubled r other).number ≡ 0 → r ≤ other
unfolding doubled
doubled_none r other ok = ltb-false other r (go (ltb other r) ok)
  where
    go : (b : Bool) → (cond b (record { number = 5; place = r; second = other }) nothing).number ≡ 0 → b ≡ false
    go true ok = absurd (omega arith)
    go false ok = refl

all_same : (xs : List ℕ) → ((r : ℕ) → r < length xs → on_air (get_or xs r 0) ≡ get_or xs r 0) → map on_air xs ≡ xs
all_same [] each = refl
all_same (x ∷ xs) each = ap₂ ◌∷◌ (each 0 (omega arith)) (all_same xs (λ r inside. each (suc r) (omega arith)))

module _ (table : Table) (fine : (table_refused table).number ≡ 0) where
  abbrev rows : ℕ
  rows = length table.identifiers

  abbrev identifier : ℕ → ℕ
  identifier r = get_or table.identifiers r 0

  -- no identifier is 0, and none is too large
  pub some_identifier : (r : ℕ) → r < rows → 0 < identifier r
  unfolding row_refused root_refused class_refused
  some_identifier zero inside =
      let other = eqb-false (identifier 0) 0 (given_none _ _ _ (first_none _ (row_passes table fine 0 inside)).0) in
      omega arith
  some_identifier (suc r) inside =
      let other = eqb-false (identifier (suc r)) 0 (given_none _ _ _ (first_none _ (row_passes table fine (suc r) inside)).0) in
      omega arith

  pub small : (r : ℕ) → r < rows → identifier r ≤ most_identifier
  unfolding row_refused root_refused class_refused
  small zero inside = ltb-false most_identifier _ (given_none _ _ _ (first_none _ (row_passes table fine 0 inside)).1.0)
  small (suc r) inside = ltb-false most_identifier _ (given_none _ _ _ (first_none _ (row_passes table fine (suc r) inside)).1.0)

  -- no earlier row has a row's identifier
  none_earlier : (r j : ℕ) → r < rows → j < r → identifier j ≢ identifier r
  unfolding row_refused class_refused earlier
  none_earlier zero j inside before same = absurd (omega arith)
  none_earlier (suc r) j inside before same =
      let alone = doubled_none (suc r) _ (first_none _ (row_passes table fine (suc r) inside)).1.1.0 in
      let first_rows = take (suc r) table.identifiers in
      let long = length-take-le (suc r) table.identifiers (omega arith) in
      let there = get_or-take (suc r) table.identifiers j 0 before in
      let found = place_before (identifier (suc r)) first_rows j (omega arith) (there ∙ same) in
      omega arith

  no_later : (r s : ℕ) → r < rows → identifier r ≡ identifier s → r ≤ s
  no_later r s inside same = go (ltb s r) refl
    where
      go : (b : Bool) → ltb s r ≡ b → r ≤ s
      go true before = absurd (none_earlier r s inside (ltb-true s r before) (sym same))
      go false after = ltb-false s r after

  -- so a row is found by its identifier
  pub own_place : (r : ℕ) → r < rows → place_of (identifier r) table.identifiers ≡ r
  own_place r inside =
      let found = place_before (identifier r) table.identifiers r inside refl in
      let here = place_here (identifier r) table.identifiers (omega arith) in
      let first = no_later r (place_of (identifier r) table.identifiers) inside (sym here) in
      omega arith

  -- cut to what goes on the air, every identifier is what it was
  pub none_cut : map on_air table.identifiers ≡ table.identifiers
  none_cut = all_same table.identifiers (λ r inside. as_it_is (identifier r) (small r inside))

  -- so no two rows are one on the air
  pub apart_on_air : ApartOnAir table.identifiers
  apart_on_air r s inside_r inside_s same =
      let alike : identifier r ≡ identifier s = sym (as_it_is (identifier r) (small r inside_r)) ∙ same ∙ as_it_is (identifier s) (small s inside_s) in
      let low = no_later r s inside_r alike in
      let high = no_later s r inside_s (sym alike) in
      omega arith
