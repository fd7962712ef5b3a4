-- One step up the tree with two largest packets of the parent's part: how far a child with a head can be from its parent's virtual time,
-- and from there what the parent finishes between two moments.
-- Assumes nothing.
use Prim.Native.Nat.{ℕ, ◌+◌, ◌*◌, ◌-◌, ◌≤◌, ◌<◌}
use mathlib.Core.Path.{◌≡◌, sym, ap, subst}
use mathlib.Core.Logic.{◌≢◌, inr}
use native.Mathlib.Nat.{mul-add, mul-le-mul_left, mul_left_comm, add-sub_of_le, le_refl}
use native.Mathlib.Decide.{ℕ_discrete}
use native.Mathlib.Omega.{arith}
use lib.Dec.{T}
use borrow.Author.Tests.{le-leb}
use Rattle.input.specs.Limits.{ticks, whole, scale, ticks_a_step}
use Rattle.input.specs.Shares.{allowed, charge}
use Rattle.input.specs.Classes.{Tree, parent, share}
use Rattle.input.specs.Events.{Events}
use Rattle.rules.specs.Box.{Rows, Box, start, finish, virtual, head, head_length, bytes_of, held_by}
use Rattle.rules.specs.Steps.{after}
use Rattle.rules.specs.Promise.{packets_for, finished_in, ticks_for}
use Rattle.laws.specs.Sound.{Sound, Kid, Inner}
use Rattle.laws.specs.Rounding.{rounding, rounded_ticks}
use Rattle.laws.specs.Level.{Mode, waits, demand, Behind}
use Rattle.laws.specs.Kept.{Kept, Taken, none as nobody, one as somebody, Balanced, Ahead, Fair, weight, spare, mode}
use Rattle.laws.specs.History.{Accepted, largest_for, Keeps}
use Rattle.laws.proofs.Tree.Paths.{parent_is_inner}
use Rattle.laws.proofs.Tree.Trees.{charge_rounded, share_whole, share_rest}
use Rattle.laws.proofs.Level.Modes.{not_root, mode_waits, weight_kid}
use Rattle.laws.proofs.Event.Largest.{parts_largest, accepted_wider}
use Rattle.laws.proofs.Event.Holding.{sum_term}
use Rattle.laws.proofs.Event.Keeping.{kept, fair}
use Rattle.laws.proofs.Share.Pace.{taken_child, finishes_late}
use Rattle.laws.proofs.Share.Stretch.{head_at, stretch}

-- ── in numbers: a share w and its rounding g, a virtual time v, a start s, a charge e for a packet of length l, and the largest packet ──

behind_waiting :
    (w g v s e l most : ℕ) → w ≤ whole → l ≤ most → w * e ≤ scale * l + w * g → whole * v + w * e ≤ whole * (s + e) + scale * most
    → w * v ≤ w * s + scale * most + w * g
behind_waiting w g v s e l most part small cost behind =
    let times = mul-le-mul_left w behind in
    let rest = mul-le-mul_left (whole - w) small in
    let parts_most = share_rest w most part in
    let parts_cost = share_rest w (w * e) part in
    let parts_rounding = share_rest w (w * g) part in
    let cost_rest = mul-le-mul_left (whole - w) cost in
    let split = mul-add (whole - w) (scale * l) (w * g) in
    omega arith

behind_taken :
    (w g v s e l most : ℕ) → w ≤ whole → l ≤ most → w * e ≤ scale * l + w * g → v ≤ s + e + ticks * most
    → w * v ≤ w * s + scale * most + ticks * (w * l) + w * g
behind_taken w g v s e l most part small cost behind =
    let times = mul-le-mul_left w behind in
    let rest = mul-le-mul_left (whole - w) small in
    let parts_own = share_rest w l part in
    let parts_most = share_rest w most part in
    omega arith

-- h is the length of the parent's head
ahead_waiting :
    (w g v s h own most : ℕ) → w ≤ whole → own ≤ most → h ≤ most → w * s ≤ w * v + ticks * ((whole - w) * own) + w * g
    → w * s + ticks * (w * h) ≤ w * v + scale * most + w * g
ahead_waiting w g v s h own most part small low ahead =
    let rest = mul-le-mul_left (whole - w) small in
    let heads = mul-le-mul_left w low in
    let parts_most = share_rest w most part in
    omega arith

-- with the parent's bytes x and the child's bytes b, each at the first and at the second moment, and the packets n that the child finished
two_sum :
    (w g v v' s s' h h' x x' b b' n most : ℕ) → v + ticks * (x' + h') ≤ v' + ticks * (x + h)
    → w * v' ≤ w * s' + scale * most + ticks * (w * h') + w * g → w * s + ticks * (w * h) ≤ w * v + scale * most + w * g
    → w * s' + scale * b ≤ w * s + scale * b' + w * (g * n) → b ≤ b' → x ≤ x'
    → ticks * (w * (x' - x)) ≤ ticks * (whole * ((b' - b) + 2 * most)) + w * (g * (n + ticks_a_step))
two_sum w g v v' s s' h h' x x' b b' n most top behind ahead own grows parent_grows =
    let times = mul-le-mul_left w top in
    let bytes : w * (x + (x' - x)) ≡ w * x' = ap (λ (n : ℕ). w * n) (add-sub_of_le parent_grows) in
    let bytes_split = mul-add w x (x' - x) in
    omega arith

-- ── one moment ──

-- the demand of a child that waits, by its own finish, is its whole charge
waits_behind :
    (n : ℕ) (w : ℕ → ℕ) (spare : ℕ) (m : ℕ → Mode) (v most j s f : ℕ) → j < n → m j ≡ waits s f → Behind n w spare m v most
    → whole * v + w j * (f - s) ≤ whole * f + scale * most
unfolding Behind demand
waits_behind n w spare m v most j s f inside is behind =
    let all = behind f (inr (j, inside, rw is (le_refl f))) in
    let term = sum_term n (λ i. w i * demand (m i) v f) j inside in
    let own : demand (m j) v f ≡ f - s = rw (is, le-leb f f (le_refl f)) in
    let same : w j * demand (m j) v f ≡ w j * (f - s) = ap (λ (x : ℕ). w j * x) own in
    omega arith

-- how far p's virtual time can be past the start of its child j, and that past it, with the packet that p has taken
record Near (tree : Tree) (big : ℕ → ℕ) (a : Rows) (p j : ℕ) : Type 0 where
  behind :
      share tree j * virtual a p
      ≤ share tree j * start a j + scale * big p + ticks * (share tree j * head_length a p) + share tree j * rounding (share tree j)
  ahead :
      share tree j * start a j + ticks * (share tree j * head_length a p)
      ≤ share tree j * virtual a p + scale * big p + share tree j * rounding (share tree j)

module _ (tree : Tree) (sound : Sound tree) (big : ℕ → ℕ) (wider : (j : ℕ) → 0 < j → j < tree.rows → big j ≤ big (parent tree j)) where
  module _
      (now : ℕ) (box : Box) (well : Kept tree big now box) (fair : Fair tree big box.rows) (p j : ℕ) (kid : Kid tree p j)
      (has : head box.rows j ≢ 0) where
    abbrev a : Rows
    a = box.rows

    abbrev w : ℕ
    w = share tree j

    inner : Inner tree p
    inner = parent_is_inner tree sound p j kid

    allows : T (allowed w)
    allows = sound.share_allowed j kid.positive kid.inside

    part : w ≤ whole
    part = share_whole w allows

    cost : w * charge (head_length a j) w ≤ scale * head_length a j + w * rounding w
    cost = charge_rounded w (head_length a j) allows

    tag : finish a j ≡ start a j + charge (head_length a j) w
    tag = well.settled.tagged j kid.positive kid.inside has

    above : big j ≤ big p
    above = rw kid.under at (wider j kid.positive kid.inside)

    small : head_length a j ≤ big p
    small = let own = well.heads_small j kid.inside in omega (arith, above)

    waiting : (t : ℕ) → j ≢ t → Balanced tree big a p t → Near tree big a p j
    unfolding Ahead
    waiting t other balanced =
        let late =
        behind_waiting w (rounding w) (virtual a p) (start a j) (charge (head_length a j) w) (head_length a j) (big p) part small cost asks in
        record {
          behind = omega arith;
          ahead =
              ahead_waiting w (rounding w) (virtual a p) (start a j) (head_length a p) (big j) (big p) part above (well.heads_small p inner.inside)
              (balanced.ahead_waiting j kid other has);
        }
      where
        asks : whole * virtual a p + w * charge (head_length a j) w ≤ whole * (start a j + charge (head_length a j) w) + scale * big p
        asks =
            let charged : finish a j - start a j ≡ charge (head_length a j) w = omega (arith, tag) in
            rw (weight_kid tree p j kid, charged, tag) at
            (waits_behind tree.rows (weight tree p) (spare tree p) (mode tree a p t) (virtual a p) (big p) j (start a j) (finish a j) kid.inside
            (mode_waits tree a p t j kid other has) balanced.behind)

    -- the head of a taken child is its parent's
    same_length : Taken tree a p j → head_length a j ≡ head_length a p
    same_length (nobody idle none) = absurd (not_root kid none)
    same_length (somebody has_p kid_j same) = same.length_same

    taken : Taken tree a p j → Near tree big a p j
    taken is =
        let near = finishes_late tree sound big wider now box well fair p j kid has in
        let late =
        behind_taken w (rounding w) (virtual a p) (start a j) (charge (head_length a j) w) (head_length a j) (big p) part small cost (omega (arith, tag)) in
        let started = (fair p j inner is).started kid in
        let times = mul-le-mul_left w started in
        let split = mul-add w (start a j) (ticks * head_length a p) in
        let swap = mul_left_comm w ticks (head_length a p) in
        record { behind = rw (same_length is) at late; ahead = omega arith }

    near : Near tree big a p j
    near = go (taken_child tree sound big wider a well.settled p inner)
      where
        go : (t : ℕ) × Taken tree a p t → Near tree big a p j
        go (t, is) = by (ℕ_discrete j t)
          where
            by : Dec (j ≡ t) → Near tree big a p j
            by (yes same) = taken (subst (λ (u : ℕ). Taken tree a p u) (sym same) is)
            by (no other) = waiting t other (fair p t inner is)

-- ── two moments ──

module _ (tree : Tree) (events : Events) (last : ℕ) (ok : Accepted tree events last) where
  near_at :
      (i p j : ℕ) → i ≤ last → Kid tree p j → 0 < held_by (after tree events i) j
      → Near tree (parts_largest tree events last) (after tree events i).rows p j
  near_at i p j earlier kid holds =
      near tree ok.sound (parts_largest tree events last) (accepted_wider tree events last ok) i (after tree events i)
      (kept tree events i last earlier ok) (fair tree events i last earlier ok) p j kid (head_at tree events last ok i j earlier kid.inside holds)

  -- what p finishes while its child j holds a packet, times j's share, is at most what j finishes, times the whole, and two largest
  -- packets of p's part, and the rounding of j's charges; in ticks
  pub two_packets :
      (p j m n : ℕ) → Kid tree p j → m ≤ n → n ≤ last → Keeps tree events j m n
      → ticks * (share tree j * (bytes_of (after tree events n) p - bytes_of (after tree events m) p))
      ≤ ticks * (whole * ((bytes_of (after tree events n) j - bytes_of (after tree events m) j) + 2 * largest_for tree events p last))
      + share tree j * rounded_ticks tree events (finished_in events (after tree events last).order m n) j
  unfolding rounded_ticks ticks_for
  two_packets p j m n kid order earlier keeps =
      let pace = stretch tree events last ok p j m n kid order earlier keeps in
      let first = after tree events m in
      let second = after tree events n in
      two_sum (share tree j) (rounding (share tree j)) (virtual first.rows p) (virtual second.rows p) (start first.rows j) (start second.rows j)
      (head_length first.rows p) (head_length second.rows p) (bytes_of first p) (bytes_of second p) (bytes_of first j) (bytes_of second j)
      (packets_for tree events j (finished_in events (after tree events last).order m n)) (largest_for tree events p last) pace.top (near_at n p j earlier kid (keeps n order (omega arith))).behind
      (near_at m p j (omega arith) kid (keeps m (omega arith) order)).ahead pace.own pace.grows pace.parent_grows
