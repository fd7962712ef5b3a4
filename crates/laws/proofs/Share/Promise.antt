-- The promise on shares, and the bound on every lag.
-- Assumes nothing.
use Prim.Native.Nat.{ℕ, zero, suc, pred, ◌+◌, ◌*◌, ◌-◌, ◌≤◌, ◌<◌}
use mathlib.Core.Path.{◌≡◌, refl, sym, ◌∙◌, ap, subst}
use mathlib.Core.Logic.{◌⊎◌, inl, inr}
use mathlib.Core.Bool.{Bool, true, false, cond, ◌||◌}
use native.Mathlib.Decide.{ℕ_discrete}
use native.Mathlib.Nat.{mul-le-mul_left, pos_of_ne-zero}
use native.Mathlib.Omega.{arith}
use lib.Dec.{ltb, eqb}
use borrow.Author.Tests.{ltb-false, eq-eqb, ne_eqb}
use lib.IntN.{ℤ, pos, ◌-ℤ◌, pos-ne-negsuc}
use Rattle.input.specs.Limits.{ticks, whole}
use Rattle.input.specs.Classes.{Tree, parent, depth, share}
use Rattle.input.specs.Events.{Events}
use Rattle.rules.specs.Box.{fresh, bytes_of, held_by}
use Rattle.rules.specs.Steps.{after}
use Rattle.rules.specs.Outcome.{lag}
use Rattle.rules.specs.Promise.{bytes_for, finished_in, Backlogged, Ratio, whole_over, step_up, plus_ticks, climbed, line_most, ticks_for, largest, Promised}
use Rattle.laws.specs.Sound.{Kid}
use Rattle.laws.specs.Rounding.{rounding, rounded_ticks}
use Rattle.laws.specs.History.{Accepted, largest_for, Keeps, Since}
use Rattle.laws.proofs.Tree.Paths.{its_parent, at_root, below_root, parent_is_inner}
use Rattle.laws.proofs.Event.Largest.{part_largest, accepted_wider}
use Rattle.laws.proofs.Event.Outset.{zeros_at}
use Rattle.laws.proofs.Event.Keeping.{busy_holds, kept, fair}
use Rattle.laws.proofs.Run.History.{holds_held}
use Rattle.laws.proofs.Run.Sent.{line_counted}
use Rattle.laws.proofs.Share.Pace.{line}
use Rattle.laws.proofs.Share.Stretch.{head_at, finishes_more, stretch, marks_stay, wakes, bytes_in}
use Rattle.laws.proofs.Share.TwoPackets.{two_packets}

-- ── in numbers ──

-- up: a bound on a row's bytes, as a ratio, gives one on its parent's, with at least the ticks t that rounding can cost
climb_sum :
    (w t more above own most denominator numerator : ℕ) → ticks * (w * above) ≤ ticks * (whole * (own + 2 * most)) + w * t → t ≤ more
    → own * denominator ≤ numerator
    → above * (denominator * w * ticks) ≤ (numerator + 2 * most * denominator) * whole * ticks + more * (denominator * w)
climb_sum w t more above own most denominator numerator stepped enough below =
    let times = mul-le-mul_left denominator stepped in
    let covered = mul-le-mul_left (denominator * w) enough in
    omega arith

-- a lag above 0 is a difference of two numbers
lag_less : (x y lagging : ℕ) → pos x -ℤ pos y ≡ pos lagging → lagging + y ≤ x
lag_less x zero lagging is =
    let same : x + 0 ≡ lagging = cc in
    omega arith
lag_less x (suc y) lagging is = go (ltb x (suc y)) refl
  where
    go : (b : Bool) → ltb x (suc y) ≡ b → lagging + suc y ≤ x
    go true less = absurd (pos-ne-negsuc lagging (suc y - suc x) (sym (rw less at is)))
    go false more =
        let under = ltb-false x (suc y) more in
        let positive = rw more at is in
        let same : x - suc y ≡ lagging = cc in
        omega arith

-- ── in a run ──

module _ (tree : Tree) (events : Events) (last : ℕ) (ok : Accepted tree events last) where
  -- a row's ancestors hold a packet where it does
  keeps_up : (j m n : ℕ) → 0 < j → j < tree.rows → n ≤ last → Keeps tree events j m n → Keeps tree events (parent tree j) m n
  keeps_up j m n positive inside earlier keeps i from to =
      let well = kept tree events i last (omega arith) ok in
      let kid = its_parent tree ok.sound j positive inside in
      busy_holds tree ok.sound _ (accepted_wider tree events last ok) i _ well (parent tree j) (ok.sound.parent_row j positive inside)
      (λ idle. head_at tree events last ok i j (omega arith) inside (keeps i from to) (well.settled.idle_below (parent tree j) idle j kid))

  -- one step up the tree, in its sharp form
  pub sharp :
      (p j m n : ℕ) → Kid tree p j → m ≤ n → n ≤ last → Keeps tree events j m n
      → ticks * (share tree j * (bytes_of (after tree events n) p + largest_for tree events j last))
      ≤ ticks
      * (share tree j * (bytes_of (after tree events m) p + 2 * largest_for tree events p last)
      + whole * ((bytes_of (after tree events n) j - bytes_of (after tree events m) j) + 2 * largest_for tree events j last))
      + share tree j * rounded_ticks tree events (finished_in events (after tree events last).order m n) j
  unfolding rounded_ticks ticks_for
  sharp p j m n kid order earlier keeps =
      let pace = stretch tree events last ok p j m n kid order earlier keeps in
      let first = kept tree events m last (omega arith) ok in
      let sure =
      line tree ok.sound _ (accepted_wider tree events last ok) (after tree events m) (after tree events n) m n p j _ first
      (kept tree events n last earlier ok) (fair tree events m last (omega arith) ok) (fair tree events n last earlier ok) kid
      (head_at tree events last ok m j (omega arith) kid.inside (keeps m (omega arith) order))
      (head_at tree events last ok n j earlier kid.inside (keeps n order (omega arith))) pace.own pace.top pace.grows in
      let inner = parent_is_inner tree ok.sound p j kid in
      let small = mul-le-mul_left (share tree j) (first.heads_small p inner.inside) in
      omega arith

  -- and in the form that the number has
  pub step :
      (p j m n : ℕ) → Kid tree p j → m ≤ n → n ≤ last → Keeps tree events j m n
      → ticks * (share tree j * (bytes_of (after tree events n) p - bytes_of (after tree events m) p))
      ≤ ticks * (whole * ((bytes_of (after tree events n) j - bytes_of (after tree events m) j) + 2 * largest events last))
      + share tree j * rounded_ticks tree events (finished_in events (after tree events last).order m n) j
  step p j m n kid order earlier keeps =
      let stepped = two_packets tree events last ok p j m n kid order earlier keeps in
      let most = part_largest tree events p last in
      omega arith

  -- ── up the tree ──

  -- ticks that are enough for the packets that each row finished between two moments
  abbrev Enough : (ℕ → ℕ) → ℕ → ℕ → Type 0
  Enough more m n = (r : ℕ) → rounded_ticks tree events (finished_in events (after tree events last).order m n) r ≤ more r

  pub climb :
      (more : ℕ → ℕ) (d k m n : ℕ) (q : Ratio) → k < tree.rows → depth tree k ≡ d → m ≤ n → n ≤ last → Keeps tree events k m n → Enough more m n
      → (bytes_of (after tree events n) k - bytes_of (after tree events m) k) * q.denominator ≤ q.numerator
      → (bytes_of (after tree events n) 0 - bytes_of (after tree events m) 0) * (climbed d tree 2 (largest events last) more k q).denominator
      ≤ (climbed d tree 2 (largest events last) more k q).numerator
  unfolding climbed step_up plus_ticks
  climb more zero k m n q inside deep order earlier keeps enough below =
      rw (at_root tree ok.sound k inside deep) at below
  climb more (suc d) k m n q inside deep order earlier keeps enough below =
      let positive = below_root tree ok.sound k d deep in
      let deeper = ok.sound.deeper k positive inside in
      let kid = its_parent tree ok.sound k positive inside in
      climb more d (parent tree k) m n (plus_ticks (more k) (step_up 2 (largest events last) (whole_over (share tree k)) q)) (ok.sound.parent_row k positive inside)
      (omega arith) order earlier (keeps_up k m n positive inside earlier keeps) enough
      (climb_sum (share tree k) _ (more k) (bytes_of (after tree events n) (parent tree k) - bytes_of (after tree events m) (parent tree k))
      (bytes_of (after tree events n) k - bytes_of (after tree events m) k) (largest events last) q.denominator q.numerator
      (step (parent tree k) k m n kid order earlier keeps) (enough k) below)

  -- ── the promise ──

  -- where a stretch is counted from: a moment with the bytes of its beginning, from which on the row holds a packet
  begins :
      (r a b : ℕ) → r < tree.rows → a < b → b ≤ last → ((i : ℕ) → a ≤ i → i < b → 0 < held_by (after tree events (suc i)) r)
      → (m : ℕ) × (m ≤ b) × (a ≤ m) × Keeps tree events r m b × ((x : ℕ) → bytes_of (after tree events m) x ≡ bytes_of (after tree events a) x)
  begins r a b inside order earlier holds = go (ℕ_discrete (held_by (after tree events a) r) 0)
    where
      later : Keeps tree events r (suc a) b
      later i from to =
          let is : suc (pred i) ≡ i = omega arith in
          subst (λ (x : ℕ). 0 < held_by (after tree events x) r) is (holds (pred i) (omega arith) (omega arith))

      go :
          Dec (held_by (after tree events a) r ≡ 0)
          → (m : ℕ) × (m ≤ b) × (a ≤ m) × Keeps tree events r m b × ((x : ℕ) → bytes_of (after tree events m) x ≡ bytes_of (after tree events a) x)
      go (yes empty) =
          let woken = wakes tree events last ok a r (omega arith) inside empty (holds a (omega arith) order) in
          (suc a, order, omega arith, later, woken.2)
      go (no some) = (a, omega arith, omega arith, at, λ x. refl)
        where
          at : Keeps tree events r a b
          at i from to = pick (ℕ_discrete i a)
            where
              pick : Dec (i ≡ a) → 0 < held_by (after tree events i) r
              pick (yes first) = rw first (pos_of_ne-zero some)
              pick (no other) = later i (omega arith) to

  -- ticks for what each row finished in a stretch are enough for what it finished in a part of it
  enough_before : (a m b : ℕ) → a ≤ m → m ≤ b → Enough (rounded_ticks tree events (finished_in events (after tree events last).order a b)) m b
  unfolding rounded_ticks ticks_for
  enough_before a m b early late r =
      let fewer = finishes_more tree events last ok r a m b early late in
      mul-le-mul_left (rounding (share tree r)) (omega arith)

  -- the promise to any row, the root too, of which it says nothing new: for a stretch after each event of which the row holds a packet
  pub promised :
      (k a b : ℕ) → k < tree.rows → a ≤ b → b ≤ last → Backlogged tree events (after tree events last).order k a b
      → Promised tree events (after tree events last).order 2 (largest events last) (rounded_ticks tree events) k a b
  unfolding Backlogged line_most
  promised k a b inside order earlier backlogged =
      rw (← line_counted tree events last ok a b)
      (go (ℕ_discrete a b) (bytes_in tree events last ok a b k order earlier inside) (bytes_in tree events last ok a b 0 order earlier ok.sound.some_rows))
    where
      own : ℕ
      own = bytes_for tree events k (finished_in events (after tree events last).order a b)

      all : ℕ
      all = bytes_for tree events 0 (finished_in events (after tree events last).order a b)

      more : ℕ → ℕ
      more = rounded_ticks tree events (finished_in events (after tree events last).order a b)

      bound : Ratio
      bound = climbed (depth tree k) tree 2 (largest events last) more k (record { numerator = own; denominator = 1 })

      go :
          Dec (a ≡ b) → bytes_of (after tree events b) k ≡ bytes_of (after tree events a) k + own
          → bytes_of (after tree events b) 0 ≡ bytes_of (after tree events a) 0 + all
          → all * bound.denominator ≤ bound.numerator
      go (yes same) own_is all_is =
          let still = ap (λ (i : ℕ). bytes_of (after tree events i) 0) same in
          let none : all ≡ 0 = omega arith in
          rw none (omega arith)
      go (no other) own_is all_is =
          let from =
          begins k a b inside (omega arith) earlier
          (λ i low high. rw (holds_held tree events (suc i) last k (omega arith) ok inside) at (backlogged i low high)) in
          let own_from = from.4 k in
          let All-from = from.4 0 in
          let is : bytes_of (after tree events b) 0 - bytes_of (after tree events from.0) 0 ≡ all = omega arith in
          subst (λ (x : ℕ). x * bound.denominator ≤ bound.numerator) is
          (climb more (depth tree k) k from.0 b (record { numerator = own; denominator = 1 }) inside refl from.1 earlier from.3
          (enough_before a from.0 b from.2 from.1) (omega arith))

  -- ── lags ──

  -- one event more: the backlog goes on, or begins with it
  backlog_on :
      (r n : ℕ) → r < tree.rows → n < last → 0 < held_by (after tree events (suc n)) r → Dec (held_by (after tree events n) r ≡ 0)
      → (0 < held_by (after tree events n) r → Since tree events r n) → Since tree events r (suc n)
  backlog_on r n inside earlier holds (yes empty) before =
      let woken = wakes tree events last ok n r earlier inside empty holds in
      record { from = n; earlier = omega arith; empty = empty; keeps = now; own_from = woken.0; parent_from = woken.1 }
    where
      now : Keeps tree events r (suc n) (suc n)
      now i low high =
          let is : i ≡ suc n = omega arith in
          rw is holds
  backlog_on r n inside earlier holds (no some) before =
      let since = before (pos_of_ne-zero some) in
      let marks = marks_stay tree events last ok n r earlier inside (pos_of_ne-zero some) in
      record {
        from = since.from;
        earlier = omega arith;
        empty = since.empty;
        keeps = on (suc since.from) since.keeps;
        own_from = marks.0 ∙ since.own_from;
        parent_from = marks.1 ∙ since.parent_from;
      }
    where
      on : (m : ℕ) → Keeps tree events r m n → Keeps tree events r m (suc n)
      on m keeps i low high = pick (ℕ_discrete i (suc n))
        where
          pick : Dec (i ≡ suc n) → 0 < held_by (after tree events i) r
          pick (yes is) = rw is holds
          pick (no other) = keeps i low (omega arith)

  -- a row that holds packets has a backlog
  pub backlog : (r n : ℕ) → r < tree.rows → n ≤ last → 0 < held_by (after tree events n) r → Since tree events r n
  unfolding after fresh
  backlog r zero inside earlier holds = let none = zeros_at r in absurd (omega arith)
  backlog r (suc n) inside earlier holds =
      backlog_on r n inside earlier holds (ℕ_discrete (held_by (after tree events n) r) 0) (backlog r n inside (omega arith))

  -- its lag, counted from its last empty moment
  pub lag_counted :
      (r n : ℕ) → 0 < r → 0 < held_by (after tree events n) r → (since : Since tree events r n)
      → lag tree (after tree events n) r
      ≡ pos (share tree r * (bytes_of (after tree events n) (parent tree r) - bytes_of (after tree events since.from) (parent tree r)))
      -ℤ pos (whole * (bytes_of (after tree events n) r - bytes_of (after tree events since.from) r))
  unfolding lag
  lag_counted r n positive holds since =
      rw (
        ne_eqb r 0 (λ root. omega arith),
        ne_eqb (held_by (after tree events n) r) 0 (λ none. omega arith),
        since.own_from,
        since.parent_from,
      )

  -- the root, and a row that holds nothing
  pub no_lag : (r n : ℕ) → (r ≡ 0) ⊎ (held_by (after tree events n) r ≡ 0) → lag tree (after tree events n) r ≡ pos 0
  unfolding lag
  no_lag r n (inl root) = rw (eq-eqb r 0 root)
  no_lag r n (inr none) = rw (eq-eqb (held_by (after tree events n) r) 0 none) (go (eqb r 0) _)
    where
      go : (b : Bool) (x : ℤ) → cond (b || true) (pos 0) x ≡ pos 0
      go true x = refl
      go false x = refl

  -- a row's lag above 0 is at most two largest packets and the rounding of the packets that it finished since its backlog began, in ticks
  pub lag_bound :
      (r n lagging : ℕ) → 0 < r → r < tree.rows → n ≤ last → 0 < held_by (after tree events n) r → (since : Since tree events r n)
      → lag tree (after tree events n) r ≡ pos lagging
      → ticks * lagging
      ≤ ticks * (2 * whole * largest events last)
      + share tree r * rounded_ticks tree events (finished_in events (after tree events last).order since.from n) r
  lag_bound r n lagging positive inside earlier holds since is =
      let m = since.from in
      let kid = its_parent tree ok.sound r positive inside in
      let woken = wakes tree events last ok m r (omega arith) inside since.empty (since.keeps (suc m) (omega arith) since.earlier) in
      let stepped =
      rw (woken.2 (parent tree r), woken.2 r) at (step (parent tree r) r (suc m) n kid since.earlier earlier since.keeps) in
      let covered = mul-le-mul_left (share tree r) (enough_before m (suc m) n (omega arith) since.earlier r) in
      let all = bytes_of (after tree events n) (parent tree r) - bytes_of (after tree events m) (parent tree r) in
      let own = bytes_of (after tree events n) r - bytes_of (after tree events m) r in
      let difference = sym (lag_counted r n positive holds since) ∙ is in
      let short = lag_less (share tree r * all) (whole * own) lagging difference in
      omega arith
