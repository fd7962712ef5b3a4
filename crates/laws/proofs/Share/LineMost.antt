-- The promise's number: its denominator is above 0, and it grows with the packets and ticks a step, the largest packet and the row's own bytes.
-- Assumes nothing.
use Prim.Native.Nat.{ℕ, zero, suc, ◌*◌, ◌≤◌, ◌<◌}
use mathlib.Core.Path.{◌≡◌, refl, ap}
use mathlib.Core.Bool.{true}
use mathlib.Core.List.{List}
use native.Mathlib.Nat.{mul-le-mul_right, mul-pos, le_refl, le_trans}
use native.Mathlib.Omega.{arith}
use Rattle.input.specs.Limits.{ticks}
use Rattle.input.specs.Classes.{Tree, parent, depth, share}
use Rattle.input.specs.Events.{Events}
use Rattle.rules.specs.Promise.{within, bytes_for, finished_in, Ratio, whole_over, step_up, plus_ticks, climbed, line_most, Promised}
use Rattle.laws.specs.Sound.{Sound}
use Rattle.laws.proofs.Tree.Paths.{self_within, further, below_root}
use Rattle.laws.proofs.Tree.Trees.{share_positive}

-- ── a denominator above 0 ──

module _ (tree : Tree) (sound : Sound tree) (packets largest : ℕ) (more : ℕ → ℕ) where
  climb_some :
      (d k : ℕ) (q : Ratio) → k < tree.rows → depth tree k ≡ d → 0 < q.denominator → 0 < (climbed d tree packets largest more k q).denominator
  unfolding climbed step_up plus_ticks
  climb_some zero k q inside deep some = some
  climb_some (suc d) k q inside deep some =
      let positive = below_root tree sound k d deep in
      let deeper = sound.deeper k positive inside in
      climb_some d (parent tree k) (plus_ticks (more k) (step_up packets largest (whole_over (share tree k)) q)) (sound.parent_row k positive inside)
      (omega arith) (mul-pos (mul-pos some (share_positive (share tree k) (sound.share_allowed k positive inside))) (omega arith))

  pub denominator_some : (k own : ℕ) → k < tree.rows → 0 < (line_most tree packets largest more k own).denominator
  unfolding line_most
  denominator_some k own inside = climb_some (depth tree k) k (record { numerator = own; denominator = 1 }) inside refl (omega arith)

-- ── growing ──

-- the same denominator, and no smaller numerator
pub record NoLess (q r : Ratio) : Type 0 where
  pub numerators : q.numerator ≤ r.numerator
  pub denominators : q.denominator ≡ r.denominator

ticks_no_less : (few many : ℕ) (q r : Ratio) → few ≤ many → NoLess q r → NoLess (plus_ticks few q) (plus_ticks many r)
unfolding plus_ticks
ticks_no_less few many q r fewer less =
    let added : few * q.denominator ≤ many * r.denominator = rw (← less.denominators) (mul-le-mul_right q.denominator fewer) in
    let own = less.numerators in
    record { numerators = omega arith; denominators = ap (λ (d : ℕ). d * ticks) less.denominators }

module _ (tree : Tree) (sound : Sound tree) (packets largest packets' largest' : ℕ) (more more' : ℕ → ℕ) (larger : packets * largest ≤ packets' * largest') where
  step_no_less : (times q r : Ratio) → NoLess q r → NoLess (step_up packets largest times q) (step_up packets' largest' times r)
  unfolding step_up
  step_no_less times q r less =
      let added : packets * largest * q.denominator ≤ packets' * largest' * r.denominator =
      rw (← less.denominators) (mul-le-mul_right q.denominator larger) in
      let own = less.numerators in
      record {
        numerators = mul-le-mul_right times.numerator (omega arith);
        denominators = ap (λ (d : ℕ). d * times.denominator) less.denominators;
      }

  climb_no_less :
      (d k : ℕ) (q r : Ratio) → k < tree.rows → depth tree k ≡ d → ((j : ℕ) → 0 < j → within tree j k ≡ true → more j ≤ more' j) → NoLess q r
      → NoLess (climbed d tree packets largest more k q) (climbed d tree packets' largest' more' k r)
  unfolding climbed
  climb_no_less zero k q r inside deep fewer less = less
  climb_no_less (suc d) k q r inside deep fewer less =
      let times = whole_over (share tree k) in
      let positive = below_root tree sound k d deep in
      let deeper = sound.deeper k positive inside in
      climb_no_less d (parent tree k) (plus_ticks (more k) (step_up packets largest times q)) (plus_ticks (more' k) (step_up packets' largest' times r))
      (sound.parent_row k positive inside) (omega arith) (λ j some on. fewer j some (further tree sound j k positive inside on))
      (ticks_no_less (more k) (more' k) (step_up packets largest times q) (step_up packets' largest' times r)
      (fewer k positive (self_within tree sound k)) (step_no_less times q r less))

  -- it is enough that the ticks on the row's own path are no fewer
  pub no_less :
      (k few many : ℕ) → k < tree.rows → ((j : ℕ) → 0 < j → within tree j k ≡ true → more j ≤ more' j) → few ≤ many
      → NoLess (line_most tree packets largest more k few) (line_most tree packets' largest' more' k many)
  unfolding line_most
  no_less k few many inside fewer_ticks fewer =
      climb_no_less (depth tree k) k (record { numerator = few; denominator = 1 }) (record { numerator = many; denominator = 1 }) inside refl fewer_ticks
      (record { numerators = fewer; denominators = refl })

-- what is promised with some packets and ticks a step is promised with more
pub more_promised :
    (tree : Tree) → Sound tree → (events : Events) (order : List ℕ) (packets packets' largest : ℕ) (more more' : List ℕ → ℕ → ℕ) (k a b : ℕ)
    → k < tree.rows → packets ≤ packets'
    → ((j : ℕ) → 0 < j → within tree j k ≡ true → more (finished_in events order a b) j ≤ more' (finished_in events order a b) j)
    → Promised tree events order packets largest more k a b → Promised tree events order packets' largest more' k a b
more_promised tree sound events order packets packets' largest more more' k a b inside larger fewer promised =
    let own = bytes_for tree events k (finished_in events order a b) in
    let grown =
    no_less tree sound packets largest packets' largest (more (finished_in events order a b)) (more' (finished_in events order a b))
    (mul-le-mul_right largest larger) k own own inside fewer (le_refl own) in
    rw (← grown.denominators) (le_trans promised grown.numerators)
