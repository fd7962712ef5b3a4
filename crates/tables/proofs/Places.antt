-- The first place of a number in a list, from what its entries are.
-- Assumes nothing.
use Prim.Native.Nat.{ℕ, zero, suc, ◌≤◌, ◌<◌}
use mathlib.Core.Path.{◌≡◌, refl, sym, ◌∙◌, ap}
use mathlib.Core.Logic.{◌≢◌}
use mathlib.Core.List.{List, [], ◌∷◌}
use native.Mathlib.Omega.{arith}
use lib.ListN.{length, get_or}
use borrow.Author.Tests.{eq-eqb, ne_eqb}
use Rattle.std.specs.Prelude.{Option, None, Some}
use Rattle.std.specs.Option.{unwrap_or}
use Rattle.input.specs.Classes.{place_of}
use Rattle.tables.specs.Stated.{Finds}

place_here : (x y : ℕ) (ys : List ℕ) → y ≡ x → place_of x (y ∷ ys) ≡ 0
unfolding place_of
place_here x y ys same = rw (place_of, eq-eqb x y (sym same)) refl

place_later : (x y : ℕ) (ys : List ℕ) → y ≢ x → place_of x (y ∷ ys) ≡ suc (place_of x ys)
unfolding place_of
place_later x y ys other = rw (place_of, ne_eqb x y (λ e. other (sym e))) refl

-- the first place of x, or that there is none
pub found_at : (x : ℕ) (xs : List ℕ) (i : ℕ) → i < length xs → get_or xs i 0 ≡ x → ((j : ℕ) → j < i → get_or xs j 0 ≢ x) → place_of x xs ≡ i
found_at x [] i inside here before = absurd (omega arith)
found_at x (y ∷ ys) zero inside here before = place_here x y ys here
found_at x (y ∷ ys) (suc i) inside here before =
    place_later x y ys (before 0 (omega arith)) ∙ ap suc (found_at x ys i (omega arith) here (λ j below. before (suc j) (omega arith)))

pub found_none : (x : ℕ) (xs : List ℕ) → ((j : ℕ) → j < length xs → get_or xs j 0 ≢ x) → place_of x xs ≡ length xs
unfolding place_of
found_none x [] none = refl
found_none x (y ∷ ys) none =
    place_later x y ys (none 0 (omega arith)) ∙ ap suc (found_none x ys (λ j below. none (suc j) (omega arith)))

-- the row that was found, or how many there are
pub found_or : (xs : List ℕ) (class n : ℕ) (o : Option ℕ) → n ≡ length xs → Finds xs class o → (unwrap_or o n ≡ place_of class xs) × (unwrap_or o n ≤ n)
found_or xs class n (Some r) same finds = (finds.0, let inside = finds.1 in omega arith)
found_or xs class n None same finds = (same ∙ sym finds, omega arith)
