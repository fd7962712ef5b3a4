-- Identifiers that are new, one row after the other, are those that the rules call named.
-- Assumes nothing.
use Prim.Native.Nat.{ℕ, zero, suc, ◌/◌, ◌%◌, ◌≤◌, ◌<◌}
use mathlib.Core.Path.{◌≡◌, refl, sym, ap, ◌∙◌}
use mathlib.Core.Logic.{◌≢◌, ◌⊎◌, inl, inr}
use mathlib.Core.Bool.{Bool, true, false, not, cond, ◌&&◌, ◌||◌}
use mathlib.Core.List.{List, [], ◌∷◌}
use native.Mathlib.Decide.{ℕ_discrete, dec_le}
use native.Mathlib.Omega.{arith}
use borrow.Author.Tests.{eq-eqb, ne_eqb}
use lib.Dec.{ltb, leb, eqb}
use lib.ListN.{length, get_or, take, replicate, get_or-eq_default}
use lib.Seq.{get_or-take}
use Rattle.input.specs.Limits.{most_identifier}
use Rattle.input.specs.Classes.{Tree, place_of, row_of}
use Rattle.live_rules.specs.Soundness.{any, named}
use Rattle.soundness.specs.Bits.{word_bits, table_words, bit, met}
use Rattle.laws.proofs.Event.Outset.{replicate_at}
use Rattle.live_rules.proofs.Alls.{true_any}
use Rattle.soundness.proofs.Alls.{any_false}

-- an earlier row has x
unfoldable pub earlier_has : List ℕ → ℕ → ℕ → Bool
earlier_has ids r x = any r (λ q. eqb (get_or ids q 0) x)

unfoldable pub newly : List ℕ → ℕ → Bool
newly ids r =
    ltb 0 (get_or ids r 0) && (leb (get_or ids r 0) most_identifier && not (earlier_has ids r (get_or ids r 0)))

-- ── places ──

-- the first place of x is where it stands and no entry before is x
place_first : (x : ℕ) (xs : List ℕ) (i : ℕ) → i < length xs → get_or xs i 0 ≡ x → ((j : ℕ) → j < i → get_or xs j 0 ≢ x) → place_of x xs ≡ i
unfolding place_of
place_first x [] i inside here before = absurd (omega arith)
place_first x (y ∷ ys) zero inside here before = rw (eq-eqb x y (sym here))
place_first x (y ∷ ys) (suc i) inside here before =
    rw (
      ne_eqb x y (λ e. before 0 (omega arith) (sym e)),
      place_first x ys i (omega arith) here (λ j below. before (suc j) (omega arith)),
    )

-- x is not first found behind a place that has it
place_most : (x : ℕ) (xs : List ℕ) (i : ℕ) → i < length xs → get_or xs i 0 ≡ x → place_of x xs ≤ i
unfolding place_of
place_most x [] i inside here = absurd (omega arith)
place_most x (y ∷ ys) zero inside here = rw (eq-eqb x y (sym here)) (omega arith)
place_most x (y ∷ ys) (suc i) inside here = go (eqb x y) (place_most x ys i (omega arith) here)
  where
    go : (b : Bool) → place_of x ys ≤ i → cond b 0 (suc (place_of x ys)) ≤ suc i
    go true later = omega arith
    go false later = omega arith

-- some entry before i is x, or none is
pub record Found (x : ℕ) (xs : List ℕ) (i : ℕ) : Type 0 where
  pub at : ℕ
  pub before : at < i
  pub here : get_or xs at 0 ≡ x

none_more : (x : ℕ) (xs : List ℕ) (i : ℕ) → ((j : ℕ) → j < i → get_or xs j 0 ≢ x) → get_or xs i 0 ≢ x
    → (j : ℕ) → j < suc i → get_or xs j 0 ≡ x → Dec (j ≡ i) → ⊥
none_more x xs i none other j below same (yes e) = other (rw e at same)
none_more x xs i none other j below same (no apart) = none j (omega arith) same

found : (x : ℕ) (xs : List ℕ) (i : ℕ) → Found x xs i ⊎ ((j : ℕ) → j < i → get_or xs j 0 ≢ x)
found x xs zero = inr (λ j below. absurd (omega arith))
found x xs (suc i) = go (ℕ_discrete (get_or xs i 0) x) (found x xs i)
  where
    go : Dec (get_or xs i 0 ≡ x) → Found x xs i ⊎ ((j : ℕ) → j < i → get_or xs j 0 ≢ x) → Found x xs (suc i) ⊎ ((j : ℕ) → j < suc i → get_or xs j 0 ≢ x)
    go (yes same) rest = inl (record { at = i; before = omega arith; here = same })
    go (no other) (inl f) = inl (record { at = f.at; before = omega (arith, f.before); here = f.here })
    go (no other) (inr none) = inr (λ j below same. none_more x xs i none other j below same (ℕ_discrete j i))

-- ── rows ──

first_test : (x : ℕ) (xs : List ℕ) (r : ℕ) → r < length xs → get_or xs r 0 ≡ x
    → Found x xs r ⊎ ((j : ℕ) → j < r → get_or xs j 0 ≢ x) → eqb (place_of x xs) r ≡ not (earlier_has xs r x)
unfolding earlier_has
first_test x xs r inside here (inl f) =
    let most = place_most x xs f.at (omega (arith, f.before)) f.here in
    rw (
      ne_eqb (place_of x xs) r (λ e. absurd (omega (arith, f.before))),
      true_any r (λ q. eqb (get_or xs q 0) x) f.at f.before (eq-eqb (get_or xs f.at 0) x f.here),
    )
first_test x xs r inside here (inr none) =
    rw (
      eq-eqb (place_of x xs) r (place_first x xs r inside here none),
      any_false r (λ q. eqb (get_or xs q 0) x) (λ q below. ne_eqb (get_or xs q 0) x (none q below)),
    )

-- the first n identifiers are searched, of which those before r decide
earlier_taken : (ids : List ℕ) (n r x : ℕ) → r ≤ n → earlier_has (take n ids) r x ≡ earlier_has ids r x
unfolding earlier_has any
earlier_taken ids n zero x inside = refl
earlier_taken ids n (suc r) x inside = rw (earlier_taken ids n r x (omega arith), get_or-take n ids r 0 (omega arith))

-- an entry that is not 0 stands in the list
stands : (xs : List ℕ) (r : ℕ) → get_or xs r 0 ≢ 0 → Dec (length xs ≤ r) → r < length xs
stands xs r some (yes beyond) = absurd (some (get_or-eq_default xs 0 {n = r} beyond))
stands xs r some (no inside) = omega arith

row_test : (ids : List ℕ) (n r : ℕ) → r < n → get_or ids r 0 ≢ 0
    → eqb (place_of (get_or ids r 0) (take n ids)) r ≡ not (earlier_has ids r (get_or ids r 0))
row_test ids n r inside some =
    let x = get_or ids r 0 in
    let at = get_or-take n ids r 0 inside in
    let there = stands (take n ids) r (λ e. some (sym at ∙ e)) (dec_le (length (take n ids)) r) in
    first_test x (take n ids) r there at (found x (take n ids) r) ∙ ap not (earlier_taken ids n r x (omega arith))

pub named_newly : (tree : Tree) (ids : List ℕ) (n r : ℕ) → tree.identifiers ≡ take n ids → r < n → named tree r ≡ newly ids r
unfolding named row_of newly
named_newly tree ids n r same inside =
    rw (same, get_or-take n ids r 0 inside) (go (ℕ_discrete (get_or ids r 0) 0))
  where
    go : Dec (get_or ids r 0 ≡ 0)
        → (ltb 0 (get_or ids r 0) && (leb (get_or ids r 0) most_identifier && eqb (place_of (get_or ids r 0) (take n ids)) r))
        ≡ (ltb 0 (get_or ids r 0) && (leb (get_or ids r 0) most_identifier && not (earlier_has ids r (get_or ids r 0))))
    go (yes none) = rw none
    go (no some) = ap (λ (b : Bool). ltb 0 (get_or ids r 0) && (leb (get_or ids r 0) most_identifier && b)) (row_test ids n r inside some)

-- ── the table of those met ──

zero_bits : (k : ℕ) → bit 0 k ≡ 0
unfolding bit
zero_bits zero = refl
zero_bits (suc k) = zero_bits k

-- an empty table has met none
pub met_start : (ids : List ℕ) (x : ℕ) → met (replicate table_words 0) x ≡ earlier_has ids 0 x
unfolding met earlier_has any
met_start ids x = rw (replicate_at {A = ℕ} table_words (x / word_bits) 0, zero_bits (x % word_bits))

-- the test that the walk makes of row r
pub newly_test : (ids table : List ℕ) (r : ℕ) → ((x : ℕ) → met table x ≡ earlier_has ids r x)
    → (ltb 0 (get_or ids r 0) && (leb (get_or ids r 0) most_identifier && not (met table (get_or ids r 0)))) ≡ newly ids r
unfolding newly
newly_test ids table r so = rw (so (get_or ids r 0))

pub met_turn : (ids : List ℕ) (r x : ℕ) (b : Bool) → b ≡ earlier_has ids r x → (b || eqb (get_or ids r 0) x) ≡ earlier_has ids (suc r) x
unfolding earlier_has any
met_turn ids r x b e = rw e
