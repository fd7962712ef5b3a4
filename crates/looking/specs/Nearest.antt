-- What one look through a row's children finds, and what its choice must be.
use Rattle.std.specs.Prelude.{ℕ, zero, suc, ◌+◌, max, ◌≡◌, Bool, cond, ◌&&◌, ◌||◌, List, ltb, eqb, get_or}
use Rattle.rules.specs.Steps.{sooner, least}
use Rattle.arrays.specs.Arrays.{has_head_of, eligible_of, raised_of}

-- where the virtual time is v, row x goes before row y: it can be eligible sooner, or as soon and its finish is less, or as large and its head
-- packet arrived first
unfoldable pub goes_before : List ℕ → List ℕ → List ℕ → ℕ → ℕ → ℕ → Bool
goes_before starts finishes heads v x y =
    let own = max v (get_or starts x 0) in
    let its = max v (get_or starts y 0) in
    ltb own its || (eqb own its && sooner (λ (i : ℕ). get_or finishes i 0) (λ (i : ℕ). get_or heads i 0) x y)

-- of two rows, the second if it has a head and goes before the first; the first may be 0, which is no row
unfoldable pub nearer : List ℕ → List ℕ → List ℕ → ℕ → ℕ → ℕ → ℕ
nearer starts finishes heads v best x = cond (has_head_of heads x && (eqb best 0 || goes_before starts finishes heads v x best)) x best

-- the one that goes before all others among n rows of a list, from a place on; 0 where none has a head
unfoldable pub nearest : List ℕ → List ℕ → List ℕ → ℕ → List ℕ → ℕ → ℕ → ℕ
nearest starts finishes heads v listed from zero = 0
nearest starts finishes heads v listed from (suc n) =
    nearer starts finishes heads v (nearest starts finishes heads v listed from n) (get_or listed (from + n) 0)

-- row p's virtual time is raised by the rules, and the child is the one that they pick
pub record Chosen (n : ℕ) (parents starts finishes virtuals heads : List ℕ) (p child time : ℕ) : Type 0 where
  pub time_is : time ≡ raised_of n parents starts virtuals heads p
  pub child_is : child ≡ least (eligible_of parents starts heads p time) (λ (i : ℕ). get_or finishes i 0) (λ (i : ℕ). get_or heads i 0) n
