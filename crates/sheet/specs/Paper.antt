-- The number of the promise as it is worked out in 64-bit words: a fraction in lowest terms for as long as it fits them.
use Rattle.std.specs.Prelude.{ℕ, zero, suc, ◌+◌, ◌*◌, ◌/◌, ◌%◌, ◌^◌, Bool, true, false, not, ◌&&◌, List, ltb, eqb, get_or}
use Rattle.input.specs.Limits.{ticks, scale, packets_a_step}
use Rattle.rules.specs.Promise.{Ratio, whole_over, step_up}

-- ── lowest terms ──

abbrev pub fraction : ℕ → ℕ → Ratio
fraction numerator denominator = record { numerator = numerator; denominator = denominator }

unfoldable pub divides_both : ℕ → ℕ → ℕ → Bool
divides_both a b d = eqb (a % d) 0 && eqb (b % d) 0

-- the greatest number up to n that divides both a and b; 1 where there is none
unfoldable pub greatest : ℕ → ℕ → ℕ → ℕ
greatest a b zero = 1
greatest a b (suc n) = elim (divides_both a b (suc n)) [ true ↦ suc n | false ↦ greatest a b n ]

-- both parts divided by the greatest number that divides them
unfoldable pub lowest : Ratio → Ratio
lowest q =
    let by = greatest q.numerator q.denominator q.denominator in
    fraction (q.numerator / by) (q.denominator / by)

-- ── figures ──

-- the numbers that a word holds are below this
abbrev pub limit : ℕ
limit = 2 ^ 64

-- a number of bytes as a fraction in lowest terms; where `fits` is false the working has outgrown 64 bits, or met a share of 0, and the
-- other two are 0
pub record Figure : Type 0 where
  pub fits : Bool
  pub numerator : ℕ
  pub denominator : ℕ

abbrev pub figure : Ratio → Figure
figure q = record { fits = true; numerator = q.numerator; denominator = q.denominator }

abbrev pub ratio_of : Figure → Ratio
ratio_of f = fraction f.numerator f.denominator

abbrev pub outgrown : Figure
outgrown = record { fits = false; numerator = 0; denominator = 0 }

-- the lowest terms of what fits two words
unfoldable pub fitting : Ratio → Figure
fitting q = elim (ltb q.numerator limit && ltb q.denominator limit) [ true ↦ figure (lowest q) | false ↦ outgrown ]

-- ── steps up ──

-- one step up from a row with this share, by the whole over the share in lowest terms. What is outgrown stays so, and over a share of 0
-- there is no figure
unfoldable pub by_share : ℕ → ℕ → Figure → Figure
by_share largest share from =
    elim (from.fits && not (eqb share 0)) [
      | true ↦ fitting (step_up packets_a_step largest (lowest (whole_over share)) (ratio_of from))
      | false ↦ outgrown
    ]

-- the sum of two fractions over their least common denominator
unfoldable pub sum_of : Ratio → Ratio → Ratio
sum_of q r =
    let by = greatest q.denominator r.denominator r.denominator in
    fraction (q.numerator * (r.denominator / by) + r.numerator * (q.denominator / by)) (q.denominator * (r.denominator / by))

-- so many ticks more, as bytes in lowest terms
unfoldable pub with_ticks : ℕ → Figure → Figure
with_ticks more from =
    elim from.fits [ true ↦ fitting (sum_of (ratio_of from) (lowest (fraction more ticks))) | false ↦ outgrown ]

-- a whole step
unfoldable pub stepped : ℕ → ℕ → ℕ → Figure → Figure
stepped largest more share from = with_ticks more (by_share largest share from)

-- so many steps up from a row, each with as many ticks
unfoldable pub climbing : ℕ → List ℕ → List ℕ → ℕ → ℕ → ℕ → Figure → Figure
climbing zero parents shares largest more row from = from
climbing (suc n) parents shares largest more row from =
    climbing n parents shares largest more (get_or parents row 0) (stepped largest more (get_or shares row 0) from)

-- so many steps up from a row's own bytes
unfoldable pub worked : ℕ → List ℕ → List ℕ → ℕ → ℕ → ℕ → ℕ → Figure
worked steps parents shares largest more row own = climbing steps parents shares largest more row (figure (fraction own 1))

-- on so many steps up from a row every share divides the scale, so that no charge is rounded
unfoldable pub dividing : ℕ → List ℕ → List ℕ → ℕ → Bool
dividing zero parents shares row = true
dividing (suc n) parents shares row = eqb (scale % get_or shares row 0) 0 && dividing n parents shares (get_or parents row 0)
