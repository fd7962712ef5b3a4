-- A meld, a turn of its loop at a time.
-- Assumes nothing.
use Prim.Native.Nat.{ℕ, zero, suc, ◌-◌, ◌<◌}
use mathlib.Core.Path.{◌≡◌}
use mathlib.Core.Bool.{Bool}
use mathlib.Core.List.{List}
use native.Mathlib.Numerals.{sub-one}
use native.Mathlib.Omega.{arith}
use borrow.Author.Tests.{eq-eqb, ne_eqb}
use lib.ListN.{get_or, set}
use Rattle.heaps.specs.Links.{links, lesser, other, turned, hung}

module _ (before : ℕ → ℕ → Bool) (at a b : ℕ) (left right : List ℕ) where
  pub hung_done : (n : ℕ) → n ≡ 0 → hung before n at a b (links left right) ≡ links left right
  unfolding hung
  hung_done n none = rw none

  pub hung_stops : (n : ℕ) → 0 < n → a ≡ 0 → hung before n at a b (links left right) ≡ links (set left at b) right
  unfolding hung
  hung_stops zero some none = absurd (omega arith)
  hung_stops (suc n) some none = rw (eq-eqb a 0 none, hung)

  pub hung_goes : (n : ℕ) → 0 < n → (a ≡ 0 → ⊥) → (first second : ℕ) → first ≡ lesser before a b → second ≡ other before a b
      → hung before n at a b (links left right)
      ≡ hung before (n - 1) first (get_or right first 0) second (links (set left at first) (set right first (get_or left first 0)))
  unfolding hung turned
  hung_goes zero some more first second one two = absurd (omega arith)
  hung_goes (suc n) some more first second one two = rw (ne_eqb a 0 more, hung, sub-one, one, two)
