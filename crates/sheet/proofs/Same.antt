-- A figure that fits is the number of the promise, and in lowest terms.
-- Assumes nothing.
use Prim.Native.Nat.{ℕ, zero, suc, ◌+◌, ◌*◌, ◌/◌, ◌≤◌, ◌<◌, ◌∣◌}
use mathlib.Core.Path.{◌≡◌, refl, sym, ap, ◌∙◌}
use mathlib.Core.Logic.{◌≢◌}
use mathlib.Core.Bool.{Bool, true}
use mathlib.Core.List.{List}
use native.Mathlib.Nat.{eq_of_mul-eq-mul_right, mul-pos, mul-dvd-mul_right, le_of_dvd, pos_of_dvd_of_pos, le_of_mul-le-mul_right}
use native.Mathlib.Omega.{arith}
use lib.ListN.{get_or}
use Rattle.input.specs.Limits.{ticks, packets_a_step}
use Rattle.input.specs.Classes.{Tree, parent, share}
use Rattle.rules.specs.Promise.{Ratio, whole_over, step_up, plus_ticks, climbed}
use Rattle.sheet.specs.Paper.{Figure}
use Rattle.sheet.specs.Paper.{fraction, divides_both, greatest, lowest, limit, figure, ratio_of, fitting}
use Rattle.sheet.specs.Paper.{by_share, sum_of, with_ticks, stepped, climbing, worked}
use Rattle.sheet.proofs.Greatest.{greatest_divides, greatest_some, greatest_most}
use Rattle.sheet.proofs.Figures.{divisor, part, up, numerator_whole, denominator_whole, denominator_some, share_fits, share_some, up_some}
use Rattle.sheet.proofs.Figures.{fits_both, ticks_part, ticked, first_whole, second_whole, ticks_added, ticks_fit, ticked_some, step_fits}

-- ── the same number ──

-- a figure and a fraction are the same number: equal crosswise, and neither denominator is 0
pub record Stands (f : Figure) (q : Ratio) : Type 0 where
  pub crosswise : f.numerator * q.denominator ≡ q.numerator * f.denominator
  pub figure_some : 0 < f.denominator
  pub ratio_some : 0 < q.denominator

-- where x/d and y/e are one number, and a/b is x·p/(d·r) with h cancelled, a/b is y·p·g/(e·r·g)
crossed :
    (x y d e p r g h a b : ℕ) → x * e ≡ y * d → a * h ≡ x * p → b * h ≡ d * r → 0 < h → a * (e * (r * g)) ≡ y * (p * g) * b
crossed x y d e p r g h a b same above below some =
    eq_of_mul-eq-mul_right h some (a * (e * (r * g))) (y * (p * g) * b)
    (first ∙ ap (λ (z : ℕ). z * (e * (r * g))) above ∙ second ∙ ap (λ (z : ℕ). z * (p * g * r)) same ∙ third
    ∙ ap (λ (z : ℕ). y * (p * g) * z) (sym below) ∙ last)
  where
    first : a * (e * (r * g)) * h ≡ a * h * (e * (r * g))
    first = omega arith

    second : x * p * (e * (r * g)) ≡ x * e * (p * g * r)
    second = omega arith

    third : y * d * (p * g * r) ≡ y * (p * g) * (d * r)
    third = omega arith

    last : y * (p * g) * (b * h) ≡ y * (p * g) * b * h
    last = omega arith

-- where a/d and y/e are one number, d is l·s and r is m·s, and A/B is (a·m + p·l)/(d·m) with h cancelled, A/B is y/e + p·g/(r·g)
summed :
    (a d y e p r g m l s h A B : ℕ) → a * e ≡ y * d → m * s ≡ r → l * s ≡ d → A * h ≡ a * m + p * l → B * h ≡ d * m → 0 < s → 0 < h
    → A * (e * (r * g)) ≡ (y * (r * g) + p * g * e) * B
summed a d y e p r g m l s h A B same second first above below s_some h_some =
    eq_of_mul-eq-mul_right (h * s) (mul-pos h_some s_some) (A * (e * (r * g))) ((y * (r * g) + p * g * e) * B)
    (one ∙ ap (λ (z : ℕ). z * (s * (e * (r * g)))) above ∙ two ∙ ap (λ (z : ℕ). a * z * (e * (r * g)) + p * (l * s) * (e * (r * g))) second
    ∙ ap (λ (z : ℕ). a * r * (e * (r * g)) + p * z * (e * (r * g))) first ∙ three ∙ ap (λ (z : ℕ). z * (r * r * g) + p * d * (e * (r * g))) same
    ∙ four ∙ ap (λ (z : ℕ). (y * (r * g) + p * g * e) * (d * z)) (sym second) ∙ five
    ∙ ap (λ (z : ℕ). (y * (r * g) + p * g * e) * (z * s)) (sym below) ∙ last)
  where
    one : A * (e * (r * g)) * (h * s) ≡ A * h * (s * (e * (r * g)))
    one = omega arith

    two : (a * m + p * l) * (s * (e * (r * g))) ≡ a * (m * s) * (e * (r * g)) + p * (l * s) * (e * (r * g))
    two = omega arith

    three : a * r * (e * (r * g)) + p * d * (e * (r * g)) ≡ a * e * (r * r * g) + p * d * (e * (r * g))
    three = omega arith

    four : y * d * (r * r * g) + p * d * (e * (r * g)) ≡ (y * (r * g) + p * g * e) * (d * r)
    four = omega arith

    five : (y * (r * g) + p * g * e) * (d * (m * s)) ≡ (y * (r * g) + p * g * e) * (d * m * s)
    five = omega arith

    last : (y * (r * g) + p * g * e) * (B * h * s) ≡ (y * (r * g) + p * g * e) * B * (h * s)
    last = omega arith

module _ (largest share : ℕ) (f : Figure) (q : Ratio) where
  abbrev higher : Ratio
  higher = up largest share f

  abbrev ratio_higher : Ratio
  ratio_higher = step_up packets_a_step largest (whole_over share) q

  crosswise_up : Stands f q → (lowest higher).numerator * ratio_higher.denominator ≡ ratio_higher.numerator * (lowest higher).denominator
  unfolding step_up
  crosswise_up was =
      let same = was.crosswise in
      rw (denominator_whole (whole_over share), numerator_whole (whole_over share)) at
      (crossed (f.numerator + packets_a_step * largest * f.denominator) (q.numerator + packets_a_step * largest * q.denominator)
      f.denominator q.denominator (part share).numerator (part share).denominator (divisor (whole_over share)) (divisor higher)
      (lowest higher).numerator (lowest higher).denominator (omega arith) (numerator_whole higher) (denominator_whole higher)
      (greatest_some higher.numerator higher.denominator higher.denominator))

  ratio_up : 0 < q.denominator → share ≢ 0 → 0 < ratio_higher.denominator
  unfolding step_up
  ratio_up before some = mul-pos before (omega arith)

  share_stands : (f.fits ≡ true → Stands f q) → (by_share largest share f).fits ≡ true → Stands (by_share largest share f) ratio_higher
  share_stands before fits =
      let known = share_fits largest share f fits in
      let was = before known.0 in
      rw known.2
      (record {
        crosswise = crosswise_up was;
        figure_some = denominator_some higher (up_some largest share f was.figure_some known.1);
        ratio_some = ratio_up was.ratio_some known.1;
      })

module _ (more : ℕ) (f : Figure) (q : Ratio) where
  -- the figure with the ticks, before it is cancelled
  abbrev higher_still : Ratio
  higher_still = ticked more f

  crosswise_ticks :
      Stands f q → (lowest higher_still).numerator * (plus_ticks more q).denominator ≡ (plus_ticks more q).numerator * (lowest higher_still).denominator
  unfolding plus_ticks sum_of
  crosswise_ticks was =
      let its = ticks_part more in
      let d = f.denominator in
      let r = its.denominator in
      let s = greatest d r r in
      rw (denominator_whole (fraction more ticks), numerator_whole (fraction more ticks)) at
      (summed f.numerator d q.numerator q.denominator its.numerator r (divisor (fraction more ticks)) (r / s) (d / s) s (divisor higher_still)
      (lowest higher_still).numerator (lowest higher_still).denominator was.crosswise (second_whole (ratio_of f) its) (first_whole (ratio_of f) its)
      (numerator_whole higher_still) (denominator_whole higher_still) (greatest_some d r r)
      (greatest_some higher_still.numerator higher_still.denominator higher_still.denominator))

  ticks_stand : (f.fits ≡ true → Stands f q) → (with_ticks more f).fits ≡ true → Stands (with_ticks more f) (plus_ticks more q)
  unfolding plus_ticks
  ticks_stand before fits =
      let known = ticks_fit more f fits in
      let was = before known.0 in
      rw known.1
      (record {
        crosswise = crosswise_ticks was;
        figure_some = denominator_some higher_still (ticked_some more f was.figure_some);
        ratio_some = mul-pos was.ratio_some (omega arith);
      })

-- a row's step, as the rules have it
abbrev ratio_step : Tree → ℕ → ℕ → ℕ → Ratio → Ratio
ratio_step tree largest more row q = plus_ticks more (step_up packets_a_step largest (whole_over (share tree row)) q)

climb_stands :
    (steps : ℕ) (tree : Tree) (largest more row : ℕ) (f : Figure) (q : Ratio) → (f.fits ≡ true → Stands f q)
    → (climbing steps tree.parents tree.shares largest more row f).fits ≡ true
    → Stands (climbing steps tree.parents tree.shares largest more row f) (climbed steps tree packets_a_step largest (λ r. more) row q)
unfolding climbing climbed stepped
climb_stands zero tree largest more row f q before = before
climb_stands (suc n) tree largest more row f q before =
    climb_stands n tree largest more (parent tree row) (stepped largest more (share tree row) f) (ratio_step tree largest more row q)
    (ticks_stand more (by_share largest (share tree row) f) (step_up packets_a_step largest (whole_over (share tree row)) q)
    (share_stands largest (share tree row) f q before))

-- after as many steps as the row's depth this is the promise's `line-most`
pub same :
    (steps : ℕ) (tree : Tree) (largest more row own : ℕ) → (worked steps tree.parents tree.shares largest more row own).fits ≡ true
    → Stands (worked steps tree.parents tree.shares largest more row own)
    (climbed steps tree packets_a_step largest (λ r. more) row (fraction own 1))
unfolding worked
same steps tree largest more row own =
    climb_stands steps tree largest more row (figure (fraction own 1)) (fraction own 1)
    (λ fits. record { crosswise = refl; figure_some = omega arith; ratio_some = omega arith })

-- ── lowest terms ──

-- nothing above 1 divides both parts
abbrev pub Lowest : Figure → Type 0
Lowest f = (d : ℕ) → d ∣ f.numerator → d ∣ f.denominator → d ≤ 1

lowest_lowest : (q : Ratio) → 0 < q.denominator → Lowest (figure (lowest q))
lowest_lowest q some d one other =
    let g = divisor q in
    let above : d * g ∣ q.numerator = rw (numerator_whole q) at (mul-dvd-mul_right d one g) in
    let below : d * g ∣ q.denominator = rw (denominator_whole q) at (mul-dvd-mul_right d other g) in
    let g_some = greatest_some q.numerator q.denominator q.denominator in
    let most =
    greatest_most q.numerator q.denominator q.denominator (d * g) (pos_of_dvd_of_pos below some) (le_of_dvd some below) above below in
    let once : d * g ≤ 1 * g = omega arith in
    le_of_mul-le-mul_right once g_some

climb_lowest :
    (steps : ℕ) (parents shares : List ℕ) (largest more row : ℕ) (f : Figure) → (f.fits ≡ true → (0 < f.denominator) × Lowest f)
    → (climbing steps parents shares largest more row f).fits ≡ true → Lowest (climbing steps parents shares largest more row f)
unfolding climbing
climb_lowest zero parents shares largest more row f before = λ fits. (before fits).1
climb_lowest (suc n) parents shares largest more row f before =
    climb_lowest n parents shares largest more (get_or parents row 0) (stepped largest more (get_or shares row 0) f) next
  where
    next :
        (stepped largest more (get_or shares row 0) f).fits ≡ true
        → (0 < (stepped largest more (get_or shares row 0) f).denominator) × Lowest (stepped largest more (get_or shares row 0) f)
    next fits =
        let known = step_fits largest more (get_or shares row 0) f fits in
        let by = by_share largest (get_or shares row 0) f in
        let some = ticked_some more by (share_some largest (get_or shares row 0) f (λ fits. (before fits).0) known.0) in
        rw known.1 (denominator_some (ticked more by) some, lowest_lowest (ticked more by) some)

pub lowest_terms :
    (steps : ℕ) (parents shares : List ℕ) (largest more row own : ℕ) → (worked steps parents shares largest more row own).fits ≡ true
    → Lowest (worked steps parents shares largest more row own)
unfolding worked
lowest_terms steps parents shares largest more row own =
    climb_lowest steps parents shares largest more row (figure (fraction own 1))
    (λ fits. (omega arith, λ d one other. le_of_dvd (omega arith) other))

-- ── no ticks ──

-- in lowest terms nothing is cancelled
cancels_nothing : (q : Ratio) → Lowest (figure q) → lowest q ≡ q
cancels_nothing q least =
    let its = greatest_divides q.numerator q.denominator q.denominator in
    let most = least (divisor q) its.0 its.1 in
    let some = greatest_some q.numerator q.denominator q.denominator in
    let once : divisor q ≡ 1 = omega arith in
    let above = rw once at (numerator_whole q) in
    let below = rw once at (denominator_whole q) in
    let numerators : (lowest q).numerator ≡ q.numerator = omega arith in
    let denominators : (lowest q).denominator ≡ q.denominator = omega arith in
    ap (λ (n : ℕ). fraction n (lowest q).denominator) numerators ∙ ap (λ (d : ℕ). fraction q.numerator d) denominators

nothing : lowest (fraction 0 ticks) ≡ fraction 0 1
unfolding lowest greatest divides_both
nothing = refl

plus_nothing : (q : Ratio) → sum_of q (fraction 0 1) ≡ q
unfolding sum_of
plus_nothing q =
    let most = le_of_dvd (omega arith) (greatest_divides q.denominator 1 1).1 in
    let some = greatest_some q.denominator 1 1 in
    let once : greatest q.denominator 1 1 ≡ 1 = omega arith in
    let numerators : q.numerator * 1 + 0 * (q.denominator / 1) ≡ q.numerator = omega arith in
    let denominators : q.denominator * 1 ≡ q.denominator = omega arith in
    rw once (ap (λ (n : ℕ). fraction n (q.denominator * 1)) numerators ∙ ap (λ (d : ℕ). fraction q.numerator d) denominators)

-- no ticks more leave a figure in lowest terms as it is
pub no_ticks_more :
    (f : Figure) → f.fits ≡ true → f.numerator < limit → f.denominator < limit → Lowest f → with_ticks 0 f ≡ f
no_ticks_more f fits one other least =
    ticks_added 0 f fits
    ∙ ap (λ (r : Ratio). fitting (sum_of (ratio_of f) r)) nothing
    ∙ ap fitting (plus_nothing (ratio_of f))
    ∙ fits_both (ratio_of f) one other
    ∙ ap figure (cancels_nothing (ratio_of f) least)
    ∙ ap (λ (t : Bool). record { fits = t; numerator = f.numerator; denominator = f.denominator }) (sym fits)
