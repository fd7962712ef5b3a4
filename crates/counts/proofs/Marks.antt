-- The marks of backlogs that begin, set row by row while the counts of the packets held grow with them: they are as the counts before
-- say, also where a row comes again, whose mark is set already.
-- Assumes nothing.
use Prim.Native.Nat.{ℕ, zero, suc, ◌≤◌, ◌<◌}
use mathlib.Core.Path.{◌≡◌, refl, sym, ◌∙◌}
use mathlib.Core.Bool.{cond}
use mathlib.Core.List.{List, [], ◌∷◌}
use native.Mathlib.Decide.{ℕ_discrete}
use native.Mathlib.Omega.{arith}
use borrow.Author.Tests.{ne_eqb}
use lib.Dec.{eqb}
use lib.ListN.{get_or, set}
use lib.Seq.{get_or-set_other, set-get_or, set-set, set_comm}
use Rattle.counts.specs.Counts.{begun, changed}

-- no row holds less than before, and where one holds packets that held none its mark is set
pub record Marked (held₀ : List ℕ) (mark : ℕ → ℕ) (held xs : List ℕ) : Type 0 where
  pub grown : (i : ℕ) → get_or held₀ i 0 ≤ get_or held i 0
  pub set_there : (i : ℕ) → get_or held₀ i 0 ≡ 0 → 0 < get_or held i 0 → set xs i (mark i) ≡ xs

pub marked_none : {held₀ : List ℕ} {mark : ℕ → ℕ} {xs : List ℕ} → Marked held₀ mark held₀ xs
marked_none = record { grown = λ i. omega arith; set_there = λ i none some. absurd (omega arith) }

alike : (xs : List ℕ) (r x before now : ℕ) → before ≤ now → (before ≡ 0 → 0 < now → set xs r x ≡ xs)
    → set xs r (cond (eqb now 0) x (get_or xs r 0)) ≡ set xs r (cond (eqb before 0) x (get_or xs r 0))
alike xs r x zero zero more there = refl
alike xs r x zero (suc n) more there = rw (ne_eqb (suc n) 0 (λ none. omega arith)) (set-get_or xs r 0 ∙ sym (there refl (omega arith)))
alike xs r x (suc m) zero more there = absurd (omega arith)
alike xs r x (suc m) (suc n) more there = rw (ne_eqb (suc m) 0 (λ none. omega arith), ne_eqb (suc n) 0 (λ none. omega arith))

one_more : (xs : List ℕ) (r i : ℕ) → get_or xs i 0 ≤ get_or (changed (λ i n. suc n) r xs) i 0
one_more [] r i = omega arith
one_more (x ∷ xs) zero zero = omega arith
one_more (x ∷ xs) zero (suc i) = omega arith
one_more (x ∷ xs) (suc r) zero = omega arith
one_more (x ∷ xs) (suc r) (suc i) = one_more xs r i

module _ {held₀ : List ℕ} {mark : ℕ → ℕ} {held xs ys : List ℕ} (r : ℕ) (marked : Marked held₀ mark held xs)
    (stored : ys ≡ changed (begun held mark) r xs) where
  pub marked_as : ys ≡ changed (begun held₀ mark) r xs
  marked_as = stored ∙ alike xs r (mark r) (get_or held₀ r 0) (get_or held r 0) (marked.grown r) (marked.set_there r)

  there_again : (i : ℕ) → Dec (i ≡ r) → get_or held₀ i 0 ≡ 0 → 0 < get_or (changed (λ i n. suc n) r held) i 0 → set ys i (mark i) ≡ ys
  there_again i (yes same) none some =
      let idle : get_or held₀ r 0 ≡ 0 = rw same at none in
      rw (same, marked_as, idle) (set-set xs r (mark r) (mark r))
  there_again i (no other) none some =
      let some_before : 0 < get_or held i 0 = rw (get_or-set_other held r i (suc (get_or held r 0)) 0 other) at some in
      rw (stored, set_comm xs r i _ (mark i) (λ same. other (sym same)), marked.set_there i none some_before)

  pub marked_more : {more : List ℕ} → more ≡ changed (λ i n. suc n) r held → Marked held₀ mark more ys
  marked_more {more} counted =
      record {
        grown = λ i. rw counted (omega (arith, marked.grown i, one_more held r i));
        set_there = λ i none some. there_again i (ℕ_discrete i r) none (rw counted at some);
      }
