-- Own pace and whole pace over one event, and the line on which every number rests: one step up the tree between two moments.
-- Assumes nothing.
use Prim.Native.Nat.{ℕ, suc, ◌+◌, ◌*◌, ◌-◌, ◌≤◌, ◌<◌}
use mathlib.Core.Path.{◌≡◌, refl, sym, ◌∙◌}
use mathlib.Core.Logic.{◌≢◌, ◌⊎◌, inl, inr}
use mathlib.Core.Bool.{Bool, true, false, true≢false}
use native.Mathlib.Decide.{ℕ_discrete}
use native.Mathlib.Nat.{mul-add, mul-le-mul_left}
use native.Mathlib.Omega.{arith}
use Rattle.input.specs.Limits.{ticks, whole, scale, ticks_a_step}
use Rattle.input.specs.Shares.{charge}
use Rattle.input.specs.Classes.{Tree, parent, share}
use Rattle.rules.specs.Box.{Box, Rows, start, finish, virtual, head, head_length, bytes_of, held_by}
use Rattle.rules.specs.Steps.{arrival, departure}
use Rattle.rules.specs.Promise.{within}
use Rattle.laws.specs.Sound.{Sound, Kid, Inner, Sender}
use Rattle.laws.specs.Moves.{Settled, Still, Pick, ArrivalAt}
use Rattle.laws.specs.Moves.{Arriving, joins, opens, Departing, renews, passes_on, empties}
use Rattle.laws.specs.Kept.{Kept, Taken, none as nobody, one as somebody, Balanced, Ahead, Fair}
use Rattle.laws.specs.Rounding.{rounding}
use Rattle.laws.specs.Pace.{OwnPace, WholePace, Paced}
use Rattle.rules.specs.Box.{line_class}
use Rattle.laws.proofs.Path.Tests.{cond_least}
use Rattle.laws.proofs.Tree.Paths.{its_parent, parent_is_inner, parent_within, one_child}
use Rattle.laws.proofs.Tree.Trees.{charge_rounded, share_whole, share_rest}
use Rattle.laws.proofs.Level.Levels.{not_behind}
use Rattle.laws.proofs.Event.OneEvent.{arrival_at, arrival_bytes, line_sender, departure_on, departure_off, departure_bytes, bytes_on, bytes_off}
use Rattle.laws.proofs.Event.Keeping.{holds_head, departure_held, departure_kept}

-- the line in numbers: a share w and its rounding g, a virtual time v, the bytes finished and taken x, a start s, a charge e, bytes b, each at
-- the first and at the second moment, the packets n finished between them, and the largest packets below and above
line_sum :
    (w g v v' s s' e x x' b b' n below above : ℕ) → w ≤ whole → v + ticks * x' ≤ v' + ticks * x → v' ≤ s' + e + ticks * above
    → w * e ≤ scale * below + w * g → w * s' + scale * b ≤ w * s + scale * b' + w * (g * n)
    → w * s ≤ w * v + ticks * ((whole - w) * below) + w * g → b ≤ b'
    → ticks * (w * (x' + below)) ≤ ticks * (w * (x + above) + whole * ((b' - b) + 2 * below)) + w * (g * (n + ticks_a_step))
line_sum w g v v' s s' e x x' b b' n below above part top late charged own early grows =
    let parts = share_rest w below part in
    let top_times = mul-le-mul_left w top in
    let late_times = mul-le-mul_left w late in
    omega arith

-- ── one level, one event ──

module _ (tree : Tree) (a b : Rows) (p : ℕ) where
  -- a row that takes a child passes over its packet
  pick_passes : (k : ℕ) → Pick tree a b p k → virtual a p + ticks * head_length b p ≤ virtual b p
  pick_passes k pick = let same = pick.takes.length_same in omega arith

  -- what an arrival does: a child with a head keeps its start, and p's virtual time covers its new head
  came_start : (k j : ℕ) → Kid tree p j → head a j ≢ 0 → Still tree a b p ⊎ ((c : ℕ) × ArrivalAt tree a b k p c) → start b j ≡ start a j
  came_start k j kid has (inl still) = (still.kids j kid).start_same
  came_start k j kid has (inr at) = (at.1.others j kid (λ same. has (rw same at.1.none_before))).start_same

  pub came_top :
      (k : ℕ) → Still tree a b p ⊎ ((c : ℕ) × ArrivalAt tree a b k p c)
      → virtual a p + ticks * head_length b p ≤ virtual b p + ticks * head_length a p
  came_top k (inl still) = let same = still.top in omega arith
  came_top k (inr at) = moved at.0 at.1.move
    where
      moved : (c : ℕ) → Arriving tree a b p c → virtual a p + ticks * head_length b p ≤ virtual b p + ticks * head_length a p
      moved c (joins has same) = omega arith
      moved c (opens t idle pick) = let covers = pick_passes t pick in omega arith

  -- what a finish does: the child whose packet it was starts again at its finish, and p's virtual time covers its new head
  left_start : (c : ℕ) → Departing tree a b p c → head b c ≢ 0 → start b c ≡ finish a c
  left_start c (renews k headed pick) has = headed.starts
  left_start c (passes_on k dropped pick) has = absurd (has dropped.none)
  left_start c (empties dropped same no_head no_length below) has = absurd (has dropped.none)

  pub left_top : (c : ℕ) → Departing tree a b p c → virtual a p + ticks * head_length b p ≤ virtual b p
  left_top c (renews k headed pick) = pick_passes k pick
  left_top c (passes_on k dropped pick) = pick_passes k pick
  left_top c (empties dropped same no_head no_length below) = omega arith

-- ── one event ──

module _ (tree : Tree) (sound : Sound tree) (big : ℕ → ℕ) (wider : (j : ℕ) → 0 < j → j < tree.rows → big j ≤ big (parent tree j)) where
  module _ (now : ℕ) (box : Box) (kept : Kept tree big now box) where
    pub arrival_paced : (k length : ℕ) → Sender tree k → 0 < length → Paced tree box (arrival tree now k length box)
    arrival_paced k length sender some =
        record {
          own = λ j positive inside holds later.
              let kid = its_parent tree sound j positive inside in
              rw (
                bytes j,
                came_start tree box.rows next (parent tree j) k j kid (holds_head tree sound big wider now box kept j inside holds)
                    (level (parent tree j) (parent_is_inner tree sound (parent tree j) j kid)),
              ) (omega arith);
          top = λ p inner. let covers = came_top tree box.rows next p k (level p inner) in let same = bytes p in omega arith;
          grows = λ r inside. let same = bytes r in omega arith;
        }
      where
        next : Rows
        next = (arrival tree now k length box).rows

        level : (p : ℕ) → Inner tree p → Still tree box.rows next p ⊎ ((c : ℕ) × ArrivalAt tree box.rows next k p c)
        level = arrival_at tree sound big now box kept k length sender some

        bytes : (r : ℕ) → bytes_of (arrival tree now k length box) r ≡ bytes_of box r
        bytes = arrival_bytes tree sound big now box kept k length sender

    module _ (busy : head box.rows 0 ≢ 0) where
      abbrev next : Rows
      next = (departure tree box).rows

      class : Sender tree (line_class box)
      class = line_sender tree sound big now box kept busy

      -- a child on the path that has a next packet starts it at its finish; one that is not on the path keeps its start
      start_on :
          (p j : ℕ) → Kid tree p j → within tree j (line_class box) ≡ true → head next j ≢ 0
          → start next j ≡ finish box.rows j
      start_on p j kid on has =
          let inner = parent_is_inner tree sound p j kid in
          let at = departure_on tree sound big now box kept busy p inner (parent_within tree sound p j (line_class box) class.inside kid on) in
          left_start tree box.rows next p j
          (rw (one_child tree sound p j at.0 (line_class box) class.inside kid at.1.kid on at.1.on_path) at.1.move)
          has

      start_off :
          (p j : ℕ) → Kid tree p j → within tree j (line_class box) ≡ false
          → start next j ≡ start box.rows j
      start_off p j kid off = go (within tree p (line_class box)) refl
        where
          inner : Inner tree p
          inner = parent_is_inner tree sound p j kid

          go : (b : Bool) → within tree p (line_class box) ≡ b → start next j ≡ start box.rows j
          go true on =
              let at = departure_on tree sound big now box kept busy p inner on in
              (at.1.others j kid (λ same. true≢false (sym at.1.on_path ∙ (rw same at off)))).start_same
          go false away = ((departure_off tree sound big now box kept busy p inner away).kids j kid).start_same

      -- one packet fewer is held by a row on the path
      fewer_on : (j : ℕ) → j < tree.rows → within tree j (line_class box) ≡ true → held_by box j - held_by (departure tree box) j ≡ 1
      fewer_on j inside on =
          let one = rw on at (departure_held tree sound big wider now box kept busy j inside) in
          omega arith

      departure_own :
          (p j : ℕ) → Kid tree p j → head box.rows j ≢ 0 → head next j ≢ 0
          → OwnPace tree box (departure tree box) j (held_by box j - held_by (departure tree box) j)
      departure_own p j kid had has = go (within tree j (line_class box)) refl
        where
          go : (b : Bool) → within tree j (line_class box) ≡ b → OwnPace tree box (departure tree box) j (held_by box j - held_by (departure tree box) j)
          go true on =
              let length = head_length box.rows j in
              let cost = charge length (share tree j) in
              rw (
                fewer_on j kid.inside on,
                start_on p j kid on has,
                kept.settled.tagged j kid.positive kid.inside had,
                bytes_on tree sound big now box kept busy j kid.inside on,
              )
              (let total = mul-add (share tree j) (start box.rows j) cost in
              let rounded = charge_rounded (share tree j) length (sound.share_allowed j kid.positive kid.inside) in
              omega arith)
          go false off = rw (start_off p j kid off, bytes_off tree sound big now box kept busy j kid.inside off) (omega arith)

      departure_top : (p : ℕ) → Inner tree p → WholePace box (departure tree box) p
      departure_top p inner = go (within tree p (line_class box)) refl
        where
          go : (b : Bool) → within tree p (line_class box) ≡ b → WholePace box (departure tree box) p
          go true on =
              let bytes = bytes_on tree sound big now box kept busy p inner.inside on in
              let (c, at) = departure_on tree sound big now box kept busy p inner on in
              let covers = left_top tree box.rows next p c at.move in
              omega arith
          go false off =
              let bytes = bytes_off tree sound big now box kept busy p inner.inside off in
              let same = (departure_off tree sound big now box kept busy p inner off).top in
              omega arith

      departure_grows : (r : ℕ) → r < tree.rows → bytes_of box r ≤ bytes_of (departure tree box) r
      departure_grows r inside =
          rw (departure_bytes tree sound big now box kept busy r inside) (cond_least (within tree r (line_class box)) _ _ _ (omega arith) (omega arith))

    pub departure_paced : head box.rows 0 ≢ 0 → Paced tree box (departure tree box)
    departure_paced busy =
        record {
          own = λ j positive inside holds still_holds.
              departure_own busy (parent tree j) j (its_parent tree sound j positive inside) (holds_head tree sound big wider now box kept j inside holds)
              (holds_head tree sound big wider (suc now) (departure tree box) (departure_kept tree sound big wider now box kept busy) j inside still_holds);
          top = departure_top busy;
          grows = departure_grows busy;
        }

  -- ── one step up the tree ──

  -- an inner row's taken child, if it has one
  pub taken_child : (a : Rows) → Settled tree a → (p : ℕ) → Inner tree p → (t : ℕ) × Taken tree a p t
  taken_child a settled p inner = go (ℕ_discrete (head a p) 0)
    where
      go : Dec (head a p ≡ 0) → (t : ℕ) × Taken tree a p t
      go (yes idle) = (0, nobody idle refl)
      go (no has) =
          let from = settled.from_child p inner has in
          (from.0, somebody has from.1 from.2)

  -- a child with a head has started before the virtual time, or not long after it
  starts_early :
      (now : ℕ) (box : Box) → Kept tree big now box → Fair tree big box.rows → (p j : ℕ) → Kid tree p j → head box.rows j ≢ 0
      → share tree j * start box.rows j
      ≤ share tree j * virtual box.rows p + ticks * ((whole - share tree j) * big j) + share tree j * rounding (share tree j)
  unfolding Ahead
  starts_early now box kept fair p j kid has = go (ℕ_discrete j taken.0)
    where
      inner : Inner tree p
      inner = parent_is_inner tree sound p j kid

      taken : (t : ℕ) × Taken tree box.rows p t
      taken = taken_child box.rows kept.settled p inner

      balanced : Balanced tree big box.rows p taken.0
      balanced = fair p taken.0 inner taken.1

      go :
          Dec (j ≡ taken.0)
          → share tree j * start box.rows j
          ≤ share tree j * virtual box.rows p + ticks * ((whole - share tree j) * big j) + share tree j * rounding (share tree j)
      go (yes same) =
          let early : start box.rows j + ticks * head_length box.rows p ≤ virtual box.rows p = rw same (balanced.started (rw same at kid)) in
          let times = mul-le-mul_left {m = start box.rows j} {n = virtual box.rows p} (share tree j) (omega arith) in
          omega arith
      go (no other) = balanced.ahead_waiting j kid other has

  -- and the virtual time is past its finish by one largest packet at most
  pub finishes_late :
      (now : ℕ) (box : Box) → Kept tree big now box → Fair tree big box.rows → (p j : ℕ) → Kid tree p j → head box.rows j ≢ 0
      → virtual box.rows p ≤ finish box.rows j + ticks * big p
  finishes_late now box kept fair p j kid has =
      let inner = parent_is_inner tree sound p j kid in
      let (t, taken) = taken_child box.rows kept.settled p inner in
      not_behind tree sound big wider box.rows p j t inner kid has taken (fair p t inner taken)

  -- between two moments at both of which row j, a child of p, holds a packet, with its own pace kept and x packets finished: what p finished,
  -- times j's share, is at most what j finished, times the whole, and two largest packets of j's part, but for the largest packets and the
  -- heads at the ends, and the rounding of j's charges, counted in ticks
  pub line :
      (one two : Box) (m n p j x : ℕ) → Kept tree big m one → Kept tree big n two → Fair tree big one.rows → Fair tree big two.rows → Kid tree p j
      → head one.rows j ≢ 0 → head two.rows j ≢ 0
      → OwnPace tree one two j x → WholePace one two p → bytes_of one j ≤ bytes_of two j
      → ticks * (share tree j * (bytes_of two p + head_length two.rows p + big j))
      ≤ ticks
      * (share tree j * (bytes_of one p + head_length one.rows p + big p) + whole * ((bytes_of two j - bytes_of one j) + 2 * big j))
      + share tree j * (rounding (share tree j) * (x + ticks_a_step))
  line one two m n p j x kept_one kept_two fair_one fair_two kid Has-one has_two own top grows =
      let allowed = sound.share_allowed j kid.positive kid.inside in
      let late = finishes_late n two kept_two fair_two p j kid has_two in
      let ends = kept_two.settled.tagged j kid.positive kid.inside has_two in
      let small = kept_two.heads_small j kid.inside in
      let rounded = charge_rounded (share tree j) (head_length two.rows j) allowed in
      line_sum (share tree j) (rounding (share tree j)) (virtual one.rows p) (virtual two.rows p) (start one.rows j) (start two.rows j)
      (charge (head_length two.rows j) (share tree j))
      (bytes_of one p + head_length one.rows p) (bytes_of two p + head_length two.rows p) (bytes_of one j) (bytes_of two j)
      x (big j) (big p)
      (share_whole (share tree j) allowed) top (omega arith) (omega arith) own (starts_early m one kept_one fair_one p j kid Has-one) grows
