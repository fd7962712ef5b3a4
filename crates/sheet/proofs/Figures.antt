-- Lowest terms, and a step from one figure to the next, case by case.
-- Assumes nothing.
use Prim.Native.Nat.{ℕ, ◌+◌, ◌*◌, ◌/◌, ◌≤◌, ◌<◌}
use mathlib.Core.Path.{◌≡◌, refl, ap, ◌∙◌}
use mathlib.Core.Logic.{◌≢◌}
use mathlib.Core.Bool.{Bool, true, false, false≢true}
use native.Mathlib.Nat.{div-mul_cancel, le-mul_of_pos_right, mul-pos}
use native.Mathlib.Decide.{ℕ_discrete, dec_lt}
use native.Mathlib.Omega.{arith}
use borrow.Author.Tests.{lt-ltb, le-ltb, eq-eqb, ne_eqb}
use Rattle.input.specs.Limits.{ticks, packets_a_step}
use Rattle.rules.specs.Promise.{Ratio, whole_over, step_up}
use Rattle.sheet.specs.Paper.{Figure}
use Rattle.sheet.specs.Paper.{fraction, greatest, lowest, limit, figure, ratio_of, outgrown, fitting, by_share, sum_of, with_ticks, stepped}
use Rattle.sheet.proofs.Greatest.{greatest_divides}

-- ── lowest terms ──

-- what both parts are divided by
abbrev pub divisor : Ratio → ℕ
divisor q = greatest q.numerator q.denominator q.denominator

-- a factor of what is above 0 is above 0
factor_some : (a b c : ℕ) → a * b ≡ c → 0 < c → 0 < a
factor_some a b c is some = go (ℕ_discrete a 0)
  where
    go : Dec (a ≡ 0) → 0 < a
    go (yes none) = let same = ap (λ (x : ℕ). x * b) none in absurd (omega arith)
    go (no a_some) = omega arith

module _ (q : Ratio) where
  pub numerator_whole : (lowest q).numerator * divisor q ≡ q.numerator
  unfolding lowest
  numerator_whole = div-mul_cancel (divisor q) (greatest_divides q.numerator q.denominator q.denominator).0

  pub denominator_whole : (lowest q).denominator * divisor q ≡ q.denominator
  unfolding lowest
  denominator_whole = div-mul_cancel (divisor q) (greatest_divides q.numerator q.denominator q.denominator).1

  numerator_some : 0 < q.numerator → 0 < (lowest q).numerator
  numerator_some = factor_some (lowest q).numerator (divisor q) q.numerator numerator_whole

  pub denominator_some : 0 < q.denominator → 0 < (lowest q).denominator
  denominator_some = factor_some (lowest q).denominator (divisor q) q.denominator denominator_whole

  -- ── what fits ──

  pub fits_both : q.numerator < limit → q.denominator < limit → fitting q ≡ figure (lowest q)
  unfolding fitting
  fits_both one other = rw (fitting, lt-ltb q.numerator limit one, lt-ltb q.denominator limit other) refl

  pub numerator_over : limit ≤ q.numerator → fitting q ≡ outgrown
  unfolding fitting
  numerator_over large = rw (fitting, le-ltb q.numerator limit large) refl

  pub denominator_over : limit ≤ q.denominator → fitting q ≡ outgrown
  unfolding fitting
  denominator_over large = go (dec_lt q.numerator limit)
    where
      go : Dec (q.numerator < limit) → fitting q ≡ outgrown
      go (yes small) = rw (fitting, lt-ltb q.numerator limit small, le-ltb q.denominator limit large) refl
      go (no too_large) = numerator_over (omega arith)

  -- what fits is in lowest terms
  fitting_is : (fitting q).fits ≡ true → fitting q ≡ figure (lowest q)
  fitting_is = go (dec_lt q.numerator limit) (dec_lt q.denominator limit)
    where
      go : Dec (q.numerator < limit) → Dec (q.denominator < limit) → (fitting q).fits ≡ true → fitting q ≡ figure (lowest q)
      go (yes one) (yes other) so = fits_both one other
      go (no large) other so = absurd (false≢true (rw (numerator_over (omega arith)) at so))
      go (yes one) (no large) so = absurd (false≢true (rw (denominator_over (omega arith)) at so))

-- ── a step by a share ──

-- the whole over a share
abbrev pub part : ℕ → Ratio
part share = lowest (whole_over share)

-- a step up from a figure, before it is cancelled
abbrev pub up : ℕ → ℕ → Figure → Ratio
up largest share from = step_up packets_a_step largest (part share) (ratio_of from)

module _ (largest share : ℕ) (from : Figure) where
  pub stays_outgrown : from.fits ≡ false → by_share largest share from ≡ outgrown
  unfolding by_share
  stays_outgrown not_so = rw (by_share, not_so) refl

  pub over_nothing : from.fits ≡ true → share ≡ 0 → by_share largest share from ≡ outgrown
  unfolding by_share
  over_nothing so none = rw (by_share, so, eq-eqb share 0 none) refl

  pub steps_up : from.fits ≡ true → share ≢ 0 → by_share largest share from ≡ fitting (up largest share from)
  unfolding by_share
  steps_up so some = rw (by_share, so, ne_eqb share 0 some) refl

  -- the largest packets more are already too many: the whole over a share is no less than 1
  pub too_many : from.fits ≡ true → share ≢ 0 → limit ≤ from.numerator + packets_a_step * largest * from.denominator → by_share largest share from ≡ outgrown
  unfolding step_up
  too_many so some large =
      let at_least_lem = le-mul_of_pos_right (from.numerator + packets_a_step * largest * from.denominator) (numerator_some (whole_over share) (omega arith)) in
      steps_up so some ∙ numerator_over (up largest share from) (omega arith)

  -- a step that fits came from a figure that fits, over a share, and is in lowest terms
  pub share_fits :
      (by_share largest share from).fits ≡ true
      → (from.fits ≡ true) × (share ≢ 0) × (by_share largest share from ≡ figure (lowest (up largest share from)))
  share_fits fits = go from.fits refl (ℕ_discrete share 0)
    where
      go :
          (t : Bool) → from.fits ≡ t → Dec (share ≡ 0)
          → (from.fits ≡ true) × (share ≢ 0) × (by_share largest share from ≡ figure (lowest (up largest share from)))
      go false not_so none = absurd (false≢true (rw (stays_outgrown not_so) at fits))
      go true so (yes none) = absurd (false≢true (rw (over_nothing so none) at fits))
      go true so (no some) =
          (so, some, steps_up so some ∙ fitting_is (up largest share from) (rw (steps_up so some) at fits))

  pub up_some : 0 < from.denominator → share ≢ 0 → 0 < (up largest share from).denominator
  unfolding step_up
  up_some before some = mul-pos before (denominator_some (whole_over share) (omega arith))

  -- a step that fits keeps the denominator above 0
  pub share_some : (from.fits ≡ true → 0 < from.denominator) → (by_share largest share from).fits ≡ true → 0 < (by_share largest share from).denominator
  share_some before fits =
      let known = share_fits fits in
      rw known.2 (denominator_some (up largest share from) (up_some (before known.0) known.1))

-- ── ticks more ──

-- as bytes, in lowest terms
abbrev pub ticks_part : ℕ → Ratio
ticks_part more = lowest (fraction more ticks)

-- a figure with ticks, before it is cancelled
abbrev pub ticked : ℕ → Figure → Ratio
ticked more from = sum_of (ratio_of from) (ticks_part more)

module _ (q r : Ratio) where
  abbrev shared : ℕ
  shared = greatest q.denominator r.denominator r.denominator

  -- what each of the two denominators has beside their greatest common divisor
  pub first_whole : q.denominator / shared * shared ≡ q.denominator
  first_whole = div-mul_cancel shared (greatest_divides q.denominator r.denominator r.denominator).0

  pub second_whole : r.denominator / shared * shared ≡ r.denominator
  second_whole = div-mul_cancel shared (greatest_divides q.denominator r.denominator r.denominator).1

  pub times_some : 0 < r.denominator → 0 < r.denominator / shared
  times_some = factor_some (r.denominator / shared) shared r.denominator second_whole

  pub sum_some : 0 < q.denominator → 0 < r.denominator → 0 < (sum_of q r).denominator
  unfolding sum_of
  sum_some one other = mul-pos one (times_some other)

module _ (more : ℕ) (from : Figure) where
  pub ticks_outgrown : from.fits ≡ false → with_ticks more from ≡ outgrown
  unfolding with_ticks
  ticks_outgrown not_so = rw (with_ticks, not_so) refl

  pub ticks_added : from.fits ≡ true → with_ticks more from ≡ fitting (ticked more from)
  unfolding with_ticks
  ticks_added so = rw (with_ticks, so) refl

  pub ticks_fit : (with_ticks more from).fits ≡ true → (from.fits ≡ true) × (with_ticks more from ≡ figure (lowest (ticked more from)))
  ticks_fit fits = go from.fits refl
    where
      go : (t : Bool) → from.fits ≡ t → (from.fits ≡ true) × (with_ticks more from ≡ figure (lowest (ticked more from)))
      go false not_so = absurd (false≢true (rw (ticks_outgrown not_so) at fits))
      go true so = (so, ticks_added so ∙ fitting_is (ticked more from) (rw (ticks_added so) at fits))

  pub ticked_some : 0 < from.denominator → 0 < (ticked more from).denominator
  ticked_some before = sum_some (ratio_of from) (ticks_part more) before (denominator_some (fraction more ticks) (omega arith))

-- ── a whole step ──

module _ (largest more share : ℕ) (from : Figure) where
  abbrev by : Figure
  by = by_share largest share from

  -- a step that fits had a part by the share that fits, and is in lowest terms
  pub step_fits : (stepped largest more share from).fits ≡ true → (by.fits ≡ true) × (stepped largest more share from ≡ figure (lowest (ticked more by)))
  unfolding stepped
  step_fits = ticks_fit more by
