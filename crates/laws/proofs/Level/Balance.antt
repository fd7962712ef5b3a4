-- The balance of one level is kept by everything that can happen there, for any shares.
-- Assumes nothing.
use Prim.Native.Nat.{ℕ, zero, suc, ◌+◌, ◌*◌, ◌-◌, ◌≤◌, ◌<◌, max}
use mathlib.Core.Path.{◌≡◌, refl, sym, ap, subst}
use mathlib.Core.Logic.{◌≢◌, ◌⊎◌, inl, inr, ⊎_elim}
use native.Mathlib.Nat.{mul-add, add-mul, mul-le-mul_left}
use native.Mathlib.Decide.{ℕ_discrete, dec_le}
use native.Mathlib.Omega.{arith}
use borrow.Author.Tests.{le-leb, lt-leb}
use Rattle.input.specs.Limits.{whole, ticks, scale}
use Rattle.laws.specs.Level.{Mode, idle, waits, taken, sum, demand, Due, Claimed, Behind}

-- every row but c is as it was
abbrev pub Apart : ℕ → ℕ → (ℕ → Mode) → (ℕ → Mode) → Type 0
Apart n c m m' = (j : ℕ) → j < n → j ≢ c → m' j ≡ m j

-- ── sums ──

-- sums of two functions that agree
pub sum_same : (n : ℕ) (f g : ℕ → ℕ) → ((j : ℕ) → j < n → f j ≡ g j) → sum n f ≡ sum n g
unfolding sum
sum_same zero f g same = refl
sum_same (suc n) f g same =
    let earlier = sum_same n f g (λ j below. same j (omega arith)) in
    let last = same n (omega arith) in
    omega arith

sum_le : (n : ℕ) (f g : ℕ → ℕ) → ((j : ℕ) → j < n → f j ≤ g j) → sum n f ≤ sum n g
unfolding sum
sum_le zero f g each = omega arith
sum_le (suc n) f g each =
    let earlier = sum_le n f g (λ j below. each j (omega arith)) in
    let last = each n (omega arith) in
    omega arith

-- one term is less by e, and no other is more
sum_falls :
    (n : ℕ) (f g : ℕ → ℕ) (k e : ℕ) → k < n → ((j : ℕ) → j < n → j ≢ k → f j ≤ g j) → f k + e ≤ g k
    → sum n f + e ≤ sum n g
unfolding sum
sum_falls zero f g k e inside others falls = absurd (omega arith)
sum_falls (suc n) f g k e inside others falls = go (ℕ_discrete k n) (λ below. sum_falls n f g k e below (λ j low. others j (omega arith)) falls)
  where
    go : Dec (k ≡ n) → (k < n → sum n f + e ≤ sum n g) → sum n f + f n + e ≤ sum n g + g n
    go (yes at) earlier =
        let rest = sum_le n f g (λ j low. others j (omega arith) (λ same. omega arith)) in
        let last : f n + e ≤ g n = subst (λ (i : ℕ). f i + e ≤ g i) at falls in
        omega arith
    go (no other) earlier =
        let rest = earlier (omega arith) in
        let last = others n (omega arith) (λ same. other (sym same)) in
        omega arith

-- what rows with the shares w ask for, if none asks for more than x a unit
sum_bound : (n : ℕ) (w g : ℕ → ℕ) (x : ℕ) → ((j : ℕ) → j < n → g j ≤ x) → sum n (λ j. w j * g j) ≤ sum n w * x
unfolding sum
sum_bound zero w g x each = omega arith
sum_bound (suc n) w g x each =
    let earlier = sum_bound n w g x (λ j below. each j (omega arith)) in
    let last = mul-le-mul_left (w n) (each n (omega arith)) in
    let spread = add-mul (sum n w) (w n) x in
    omega arith

-- ── one row's demand ──

-- a child that waits asks for what there is from its start on
due_demand : (s f v d : ℕ) → f ≤ d → demand (waits s f) v d ≡ d - s
unfolding demand
due_demand s f v d due = rw (le-leb f d due)

-- but not before its finish
waits_demand : (s f v u d : ℕ) → (f ≤ d → u ≤ s) → demand (waits s f) v d ≤ d - u
unfolding demand
waits_demand s f v u d late = go (dec_le f d)
  where
    go : Dec (f ≤ d) → demand (waits s f) v d ≤ d - u
    go (yes due) =
        let starts = late due in
        rw (due_demand s f v d due) (omega arith)
    go (no early) = rw (lt-leb f d (omega arith)) (omega arith)

-- no demand grows with the virtual time
demand_falls : (x : Mode) (v v' d : ℕ) → v ≤ v' → demand x v' d ≤ demand x v d
unfolding demand
demand_falls (idle f) v v' d rises = omega arith
demand_falls (waits s f) v v' d rises = omega arith
demand_falls (taken f) v v' d rises = omega arith

-- and none is for more than there is from zero on
demand_most : (x : Mode) (v d : ℕ) → demand x v d ≤ d - 0
unfolding demand
demand_most (idle f) v d = omega arith
demand_most (waits s f) v d = waits_demand s f v 0 d (λ due. omega arith)
demand_most (taken f) v d = omega arith

-- a child that waits, and whose finish is at most d, starts at u or later
abbrev Late : Mode → ℕ → ℕ → Type 0
Late x u d = (s f : ℕ) → x ≡ waits s f → f ≤ d → u ≤ s

-- such a row, where it is not taken, asks for no more than there is from u on
late_demand : (x : Mode) (v u d : ℕ) → u ≤ v → ((g : ℕ) → x ≢ taken g) → Late x u d → demand x v d ≤ d - u
late_demand (idle f) v u d rises free late = unfold demand in omega arith
late_demand (taken f) v u d rises free late = absurd (free f refl)
late_demand (waits s f) v u d rises free late = waits_demand s f v u d (late s f refl)

-- and is due from u on only
late_due :
    (x : Mode) (u d : ℕ) → ((g : ℕ) → x ≢ taken g) → ((s f : ℕ) → x ≡ waits s f → s ≤ f) → Late x u d → Due x d
    → u ≤ d
late_due (idle f) u d free ordered late due = absurd due
late_due (waits s f) u d free ordered late due =
    let starts = late s f refl due in
    let ends = ordered s f refl in
    omega arith
late_due (taken f) u d free ordered late due = absurd (free f refl)

-- ── the level ──

-- the balance at d, where it is claimed
abbrev At : (n : ℕ) (w : ℕ → ℕ) (spare : ℕ) (m : ℕ → Mode) (v largest d : ℕ) → Type 0
At n w spare m v largest d = whole * v + (sum n (λ j. w j * demand (m j) v d) + spare * (d - v)) ≤ whole * d + scale * largest

module _ (n : ℕ) (w : ℕ → ℕ) (spare largest : ℕ) where
  -- no row's demand grows, and the claim is made nowhere where it was not
  eases_behind :
      (m m' : ℕ → Mode) (v : ℕ) → ((j d : ℕ) → j < n → demand (m' j) v d ≤ demand (m j) v d)
      → ((j d : ℕ) → j < n → Due (m' j) d → Claimed n m v d) → Behind n w spare m v largest → Behind n w spare m' v largest
  unfolding Behind
  eases_behind m m' v less claimed before d claim =
      let was = before d (earlier claim) in
      let asks = sum_le n (λ j. w j * demand (m' j) v d) (λ j. w j * demand (m j) v d) (λ j inside. mul-le-mul_left (w j) (less j d inside)) in
      omega arith
    where
      earlier : Claimed n m' v d → Claimed n m v d
      earlier (inl past) = inl past
      earlier (inr due) = claimed due.0 d due.1 due.2

  pub same_behind : (m m' : ℕ → Mode) (v : ℕ) → ((j : ℕ) → j < n → m' j ≡ m j) → Behind n w spare m v largest → Behind n w spare m' v largest
  same_behind m m' v same =
      eases_behind m m' v
      (λ j d inside. rw (same j inside) (omega arith))
      (λ j d inside due. inr (j, inside, rw (same j inside) at due))

  -- only row c moves
  moves_behind :
      (m m' : ℕ → Mode) (x x' : Mode) (v c : ℕ) → c < n → Apart n c m m' → m c ≡ x → m' c ≡ x'
      → ((d : ℕ) → demand x' v d ≤ demand x v d) → ((d : ℕ) → Due x' d → (v ≤ d) ⊎ Due x d)
      → Behind n w spare m v largest → Behind n w spare m' v largest
  moves_behind m m' x x' v c inside apart was is less claimed =
      eases_behind m m' v (λ j d below. asks j d below (ℕ_discrete j c)) (λ j d below. due j d below (ℕ_discrete j c))
    where
      asks : (j d : ℕ) → j < n → Dec (j ≡ c) → demand (m' j) v d ≤ demand (m j) v d
      asks j d below (yes at) = rw (at, was, is) (less d)
      asks j d below (no other) = rw (apart j below other) (omega arith)

      due : (j d : ℕ) → j < n → Dec (j ≡ c) → Due (m' j) d → Claimed n m v d
      due j d below (yes at) is_due = ⊎_elim inl (λ due_before. inr (c, inside, rw was due_before)) (claimed d (rw (at, is) at is_due))
      due j d below (no other) is_due = inr (j, below, rw (apart j below other) at is_due)

  -- an idle child gets a head
  pub wake_behind :
      (m m' : ℕ → Mode) (v c f f' : ℕ) → c < n → Apart n c m m' → m c ≡ idle f → m' c ≡ waits (max f v) f' → max f v ≤ f'
      → Behind n w spare m v largest → Behind n w spare m' v largest
  unfolding demand
  wake_behind m m' v c f f' inside apart was is fits =
      moves_behind m m' (idle f) (waits (max f v) f') v c inside apart was is
      (λ d. waits_demand (max f v) f' v (max f v) d (λ due. omega arith)) (λ d due. inl (omega arith))

  -- the taken child's packet has finished and it has another
  pub renew_behind :
      (m m' : ℕ → Mode) (v c f f' : ℕ) → c < n → Apart n c m m' → m c ≡ taken f → m' c ≡ waits f f' → f ≤ f'
      → Behind n w spare m v largest → Behind n w spare m' v largest
  unfolding demand
  renew_behind m m' v c f f' inside apart was is fits =
      moves_behind m m' (taken f) (waits f f') v c inside apart was is
      (λ d. waits_demand f f' v f d (λ due. omega arith)) (λ d due. inr (omega arith))

  -- or it has none
  pub drop_behind :
      (m m' : ℕ → Mode) (v c f : ℕ) → c < n → Apart n c m m' → m c ≡ taken f → m' c ≡ idle f
      → Behind n w spare m v largest → Behind n w spare m' v largest
  unfolding demand
  drop_behind m m' v c f inside apart was is =
      moves_behind m m' (taken f) (idle f) v c inside apart was is (λ d. omega arith) (λ d due. absurd due)

  -- if no row asks for more than there is from u on, there is room for one largest packet
  flat :
      (m : ℕ → Mode) (v u d : ℕ) → sum n w + spare ≡ whole → ((j : ℕ) → j < n → demand (m j) v d ≤ d - u)
      → u ≤ v → u ≤ d → v ≤ u + ticks * largest
      → At n w spare m v largest d
  flat m v u d shares each rises past close =
      let asks = sum_bound n w (λ j. demand (m j) v d) (d - u) each in
      let unused : spare * (d - v) ≤ spare * (d - u) = mul-le-mul_left spare (omega arith) in
      let spread = add-mul (sum n w) spare (d - u) in
      let all : (sum n w + spare) * (d - u) ≡ whole * (d - u) = ap (λ (x : ℕ). x * (d - u)) shares in
      omega arith

  -- at the virtual time zero every level is balanced
  pub zero_behind : (m : ℕ → Mode) → sum n w + spare ≡ whole → Behind n w spare m 0 largest
  unfolding Behind
  zero_behind m shares d claim = flat m 0 0 d shares (λ j inside. demand_most (m j) 0 d) (omega arith) (omega arith) (omega arith)

  module _ (m : ℕ → Mode) (u : ℕ) (shares : sum n w + spare ≡ whole) (free : (j g : ℕ) → j < n → m j ≢ taken g) (ordered : (j s f : ℕ) → j < n → m j ≡ waits s f → s ≤ f) where
    -- where every waiting child whose finish is at most d starts at u or later, the claim is made from u on only
    late_claim : (v d : ℕ) → u ≤ v → ((j : ℕ) → j < n → Late (m j) u d) → Claimed n m v d → u ≤ d
    late_claim v d rises late (inl past) = omega arith
    late_claim v d rises late (inr due) =
        let j = due.0 in
        let below = due.1 in
        late_due (m j) u d (λ g. free j g below) (λ s f. ordered j s f below) (late j below) due.2

    -- the virtual time rises, not past the least start
    rise_behind :
        (v : ℕ) → (u ≡ v) ⊎ ((j s f : ℕ) → j < n → m j ≡ waits s f → u ≤ s) → Behind n w spare m v largest
        → Behind n w spare m u largest
    unfolding Behind
    rise_behind v (inl same) before = rw same before
    rise_behind v (inr starts) before =
        λ d claim. let late : (j : ℕ) → j < n → Late (m j) u d = λ j inside s f is due. starts j s f inside is in
        flat m u u d shares (λ j inside. late_demand (m j) u u d (omega arith) (λ g. free j g inside) (late j inside)) (omega arith)
        (late_claim u d (omega arith) late claim) (omega arith)

    -- a child with the least finish of those in time is taken
    module _ (m' : ℕ → Mode) (k s f l : ℕ) (inside : k < n) (apart : Apart n k m m') (was : m k ≡ waits s f) (is : m' k ≡ taken f) where
      -- seen from a d before its finish
      take_early :
          ((j s' f' : ℕ) → j < n → m j ≡ waits s' f' → s' ≤ u → f ≤ f') → l ≤ largest → (d : ℕ) → d < f → Claimed n m' (u + ticks * l) d
          → At n w spare m' (u + ticks * l) largest d
      take_early least small d early claim =
          flat m' (u + ticks * l) u d shares (λ j below. asks j below (ℕ_discrete j k)) (omega arith)
          (late_claim (u + ticks * l) d (omega arith) late (others claim)) (omega arith)
        where
          late : (j : ℕ) → j < n → Late (m j) u d
          late j below s' f' waiting due = go (dec_le s' u)
            where
              go : Dec (s' ≤ u) → u ≤ s'
              go (yes started) =
                  let ends = least j s' f' below waiting started in
                  absurd (omega arith)
              go (no later) = omega arith

          asks : (j : ℕ) → j < n → Dec (j ≡ k) → demand (m' j) (u + ticks * l) d ≤ d - u
          asks j below (yes at) = rw (at, is) (unfold demand in omega arith)
          asks j below (no other) =
              rw (apart j below other) (late_demand (m j) (u + ticks * l) u d (omega arith) (λ g. free j g below) (late j below))

          others : Claimed n m' (u + ticks * l) d → Claimed n m (u + ticks * l) d
          others (inl past) = inl past
          others (inr due) = go (ℕ_discrete due.0 k)
            where
              go : Dec (due.0 ≡ k) → Claimed n m (u + ticks * l) d
              go (yes at) =
                  let done : f ≤ d = rw (at, is) at due.2 in
                  absurd (omega arith)
              go (no other) = inr (due.0, due.1, rw (apart due.0 due.1 other) at due.2)

      -- and from one after it
      take_due :
          s ≤ f → scale * l ≤ w k * (f - s) → Behind n w spare m u largest → (d : ℕ) → f ≤ d
          → At n w spare m' (u + ticks * l) largest d
      unfolding Behind
      take_due fits covers before d due =
          let had = before d (inr (k, inside, rw was due)) in
          let asks =
          sum_falls n (λ j. w j * demand (m' j) (u + ticks * l) d) (λ j. w j * demand (m j) u d) k (scale * l) inside others
          falls in
          let unused : spare * (d - (u + ticks * l)) ≤ spare * (d - u) = mul-le-mul_left spare (omega arith) in
          omega arith
        where
          others : (j : ℕ) → j < n → j ≢ k → w j * demand (m' j) (u + ticks * l) d ≤ w j * demand (m j) u d
          others j below other =
              mul-le-mul_left (w j) (rw (apart j below other) (demand_falls (m j) u (u + ticks * l) d (omega arith)))

          falls : w k * demand (m' k) (u + ticks * l) d + scale * l ≤ w k * demand (m k) u d
          falls =
              let apart_by : d - s ≡ (d - f) + (f - s) = omega arith in
              let spread = mul-add (w k) (d - f) (f - s) in
              rw (was, is, due_demand s f u d due, apart_by) (unfold demand in omega arith)

  -- the virtual time rises to u, not past the least start if it rises at all, and a waiting child with the least finish of those in time is taken
  pub pick_behind :
      (m m' : ℕ → Mode) (v u k s f l : ℕ) → k < n → Apart n k m m'
      → sum n w + spare ≡ whole
      → ((j g : ℕ) → j < n → m j ≢ taken g)
      → ((j s' f' : ℕ) → j < n → m j ≡ waits s' f' → s' ≤ f')
      → m k ≡ waits s f → m' k ≡ taken f → s ≤ u
      → ((j s' f' : ℕ) → j < n → m j ≡ waits s' f' → s' ≤ u → f ≤ f')
      → v ≤ u → (u ≡ v) ⊎ ((j s' f' : ℕ) → j < n → m j ≡ waits s' f' → u ≤ s')
      → scale * l ≤ w k * (f - s) → l ≤ largest
      → Behind n w spare m v largest → Behind n w spare m' (u + ticks * l) largest
  unfolding Behind
  pick_behind m m' v u k s f l inside apart shares free ordered was is in_time least rises no_further covers small before d claim =
      go (dec_le f d)
    where
      risen : Behind n w spare m u largest
      risen = rise_behind m u shares free ordered v no_further before

      go : Dec (f ≤ d) → At n w spare m' (u + ticks * l) largest d
      go (yes due) = take_due m u shares free ordered m' k s f l inside apart was is (ordered k s f inside was) covers risen d due
      go (no early) = take_early m u shares free ordered m' k s f l inside apart was is least small d (omega arith) claim

  -- what the balance is for: the virtual time is past the finish of a child with a head by one largest packet at most
  pub due_behind : (m : ℕ → Mode) (v j f : ℕ) → j < n → Due (m j) f → Behind n w spare m v largest → v ≤ f + ticks * largest
  unfolding Behind
  due_behind m v j f inside due before =
      let fits = before f (inr (j, inside, due)) in
      omega arith
