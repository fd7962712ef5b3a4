-- The worst-case fair index: how far a class falls behind its share from a moment at which its parent was about to choose up to the
-- finish of a packet of its own, at every level of any tree.
-- Assumes nothing.
use Prim.Native.Nat.{ℕ, suc, pred, ◌+◌, ◌*◌, ◌-◌, ◌≤◌, ◌<◌}
use mathlib.Core.Path.{◌≡◌, refl, sym, subst, ◌∙◌}
use mathlib.Core.Logic.{◌≢◌, ◌⊎◌, inl, inr}
use mathlib.Core.Bool.{Bool, true, false}
use native.Mathlib.Nat.{mul-add, mul-sub, mul_left_comm, mul-le-mul_left}
use native.Mathlib.Omega.{arith}
use Rattle.input.specs.Limits.{ticks, whole, scale}
use Rattle.input.specs.Shares.{charge}
use Rattle.input.specs.Classes.{Tree, parent, share}
use Rattle.input.specs.Events.{Events, length_word}
use Rattle.rules.specs.Box.{Box, Rows, start, virtual, head, head_length, bytes_of, held_by}
use Rattle.rules.specs.Steps.{arrival, departure, after}
use Rattle.rules.specs.Promise.{within, packets_for, bytes_for, finished_in, holds, Backlogged}
use Rattle.laws.specs.Sound.{Sound, Kid, Inner, Sender}
use Rattle.laws.specs.Moves.{Still, ArrivalAt}
use Rattle.laws.specs.Rounding.{rounding}
use Rattle.laws.specs.Kept.{Kept, Ahead, Fair}
use Rattle.laws.specs.History.{Accepted, largest_for, Keeps}
use Rattle.rules.specs.Box.{line_class}
use Rattle.laws.proofs.Tree.Paths.{its_parent, parent_is_inner, parent_within}
use Rattle.laws.proofs.Tree.Trees.{share_whole, share_rest, charge_rounded}
use Rattle.laws.proofs.Level.Modes.{not_root}
use Rattle.laws.proofs.Level.Levels.{arrival_ready, departure_ready}
use Rattle.laws.proofs.Event.Turns.{class_at, turn}
use Rattle.laws.proofs.Event.Largest.{parts_largest, accepted_wider}
use Rattle.laws.proofs.Event.OneEvent.{arrival_at, arrival_bytes, line_sender, line_length, departure_on, departure_off, bytes_on, bytes_off}
use Rattle.laws.proofs.Event.Keeping.{holds_none, departure_held, kept, fair}
use Rattle.laws.proofs.Run.History.{holds_held}
use Rattle.laws.proofs.Share.Pace.{came_top, left_top, finishes_late}
use Rattle.laws.proofs.Share.Stretch.{head_at, finishes, finishes_on, stretch, bytes_in}

-- p chose: its virtual time passes over the packet that it took, and its child k then starts not too far ahead of where that time was
record Chose (tree : Tree) (big : ℕ → ℕ) (a b : Rows) (p k : ℕ) : Type 0 where
  passed : virtual a p + ticks * head_length b p ≤ virtual b p
  ahead : Ahead tree big a p k (start b k)

-- row k's packet has finished, and it was its parent p's too
record Ended (box next : Box) (p k : ℕ) : Type 0 where
  same_length : head_length box.rows p ≡ head_length box.rows k
  one_fewer : held_by box k ≡ suc (held_by next k)
  kid_bytes : bytes_of next k ≡ bytes_of box k + head_length box.rows k
  parent_bytes : bytes_of next p ≡ bytes_of box p + head_length box.rows p

-- p finished a packet, or held none before: it chooses
abbrev MustChoose : Box → Box → ℕ → Type 0
MustChoose box next p = (bytes_of box p < bytes_of next p) ⊎ (held_by box p ≡ 0)

module _ (tree : Tree) (sound : Sound tree) (big : ℕ → ℕ) (wider : (j : ℕ) → 0 < j → j < tree.rows → big j ≤ big (parent tree j)) where
  module _ (now : ℕ) (box : Box) (well : Kept tree big now box) (fair : Fair tree big box.rows) (p k : ℕ) (kid : Kid tree p k) where
    inner : Inner tree p
    inner = parent_is_inner tree sound p k kid

    -- where p held nothing, its level is not still if its child k has a head after the event
    not_still : (b : Rows) → held_by box p ≡ 0 → head b k ≢ 0 → Still tree box.rows b p → ⊥
    not_still b empty has still =
        let idle = well.settled.idle_below p (holds_none tree sound big wider now box well p inner.inside empty) k kid in
        has ((still.kids k kid).head_same.packet_same ∙ idle)

    -- ── p is about to choose ──

    arrival_chose :
        (x length : ℕ) → Sender tree x → 0 < length → Kept tree big (suc now) (arrival tree now x length box)
        → head (arrival tree now x length box).rows k ≢ 0 → MustChoose box (arrival tree now x length box) p
        → Chose tree big box.rows (arrival tree now x length box).rows p k
    arrival_chose x length sender some later has (inl more) =
        let same = arrival_bytes tree sound big now box well x length sender p in
        absurd (omega arith)
    arrival_chose x length sender some later has (inr empty) = go (arrival_at tree sound big now box well x length sender some p inner)
      where
        b : Rows
        b = (arrival tree now x length box).rows

        go : Still tree box.rows b p ⊎ ((c : ℕ) × ArrivalAt tree box.rows b x p c) → Chose tree big box.rows b p k
        go (inl still) = absurd (not_still b empty has still)
        go (inr (c, at)) =
            let idle = holds_none tree sound big wider now box well p inner.inside empty in
            let covers = came_top tree box.rows b p x (inr (c, at)) in
            let short = well.settled.no_length p inner.inside idle in
            let ready =
            arrival_ready tree sound big wider box.rows b well.settled later.settled later.heads_small p inner x c at idle (λ t. fair p t inner) in
            record { passed = omega arith; ahead = ready.waiting k kid (not_root kid) has }

    module _ (busy : head box.rows 0 ≢ 0) where
      departure_chose :
          Kept tree big (suc now) (departure tree box) → head (departure tree box).rows k ≢ 0 → MustChoose box (departure tree box) p
          → Chose tree big box.rows (departure tree box).rows p k
      departure_chose later has due = go (within tree p (line_class box)) refl due
        where
          b : Rows
          b = (departure tree box).rows

          go : (on : Bool) → within tree p (line_class box) ≡ on → MustChoose box (departure tree box) p → Chose tree big box.rows b p k
          go true on due =
              let (c, at) = departure_on tree sound big now box well busy p inner on in
              let ready =
              departure_ready tree sound big wider box.rows b well.settled later.settled later.heads_small p inner (line_class box) c at (λ t. fair p t inner) in
              record { passed = left_top tree box.rows b p c at.move; ahead = ready.waiting k kid (not_root kid) has }
          go false off (inl more) = let same = bytes_off tree sound big now box well busy p inner.inside off in absurd (omega arith)
          go false off (inr empty) = absurd (not_still b empty has (departure_off tree sound big now box well busy p inner off))

      -- ── k's packet finishes ──

      departure_ended : bytes_of box k < bytes_of (departure tree box) k → Ended box (departure tree box) p k
      departure_ended more = go (within tree k (line_class box)) refl
        where
          go : (on : Bool) → within tree k (line_class box) ≡ on → Ended box (departure tree box) p k
          go true on =
              let class = line_sender tree sound big now box well busy in
              let above = parent_within tree sound p k (line_class box) class.inside kid on in
              let line_p = line_length tree sound big now box well busy p inner.inside above in
              let line_k = line_length tree sound big now box well busy k kid.inside on in
              record {
                same_length = line_p ∙ sym line_k;
                one_fewer = rw on at (departure_held tree sound big wider now box well busy k kid.inside);
                kid_bytes = bytes_on tree sound big now box well busy k kid.inside on;
                parent_bytes = bytes_on tree sound big now box well busy p inner.inside above;
              }
          go false off = let same = bytes_off tree sound big now box well busy k kid.inside off in absurd (omega arith)

    -- where k has a head, p's virtual time is past k's finish by one packet at most; the finish is the start and the charge, with its rounding
    close :
        head box.rows k ≢ 0
        → share tree k * virtual box.rows p
        ≤ share tree k * start box.rows k + scale * head_length box.rows k + ticks * (share tree k * big p)
        + share tree k * rounding (share tree k)
    close has =
        let w = share tree k in
        let a = box.rows in
        let near = finishes_late tree sound big wider now box well fair p k kid has in
        let tagged = well.settled.tagged k kid.positive kid.inside has in
        let cost = charge_rounded w (head_length a k) (sound.share_allowed k kid.positive kid.inside) in
        let all : w * virtual a p ≤ w * (start a k + charge (head_length a k) w + ticks * big p) = mul-le-mul_left w (omega arith) in
        let apart = mul-add w (start a k + charge (head_length a k) w) (ticks * big p) in
        let tags = mul-add w (start a k) (charge (head_length a k) w) in
        let swap = mul_left_comm w ticks (big p) in
        omega arith

module _ (tree : Tree) (events : Events) (last : ℕ) (ok : Accepted tree events last) where
  sound : Sound tree
  sound = ok.sound

  abbrev box : ℕ → Box
  box n = after tree events n

  abbrev big : ℕ → ℕ
  big = parts_largest tree events last

  wider : (j : ℕ) → 0 < j → j < tree.rows → big j ≤ big (parent tree j)
  wider = accepted_wider tree events last ok

  well : (n : ℕ) → n ≤ last → Kept tree big n (box n)
  well n earlier = kept tree events n last earlier ok

  even : (n : ℕ) → n ≤ last → Fair tree big (box n).rows
  even n earlier = fair tree events n last earlier ok

  chose :
      (p k i : ℕ) → Kid tree p k → i < last → head (box (suc i)).rows k ≢ 0 → MustChoose (box i) (box (suc i)) p
      → Chose tree big (box i).rows (box (suc i)).rows p k
  chose p k i kid before =
      turn tree events last ok i before
      (λ next. Kept tree big (suc i) next → head next.rows k ≢ 0 → MustChoose (box i) next p → Chose tree big (box i).rows next.rows p k)
      (λ is fits. arrival_chose tree sound big wider i (box i) (well i (omega arith)) (even i (omega arith)) p k kid _ _ fits.sender fits.some_bytes)
      (λ is none busy. departure_chose tree sound big wider i (box i) (well i (omega arith)) (even i (omega arith)) p k kid busy)
      (well (suc i) before)

  ended : (p k j : ℕ) → Kid tree p k → j < last → bytes_of (box j) k < bytes_of (box (suc j)) k → Ended (box j) (box (suc j)) p k
  ended p k j kid before =
      turn tree events last ok j before (λ next. bytes_of (box j) k < bytes_of next k → Ended (box j) next p k)
      (λ is fits more.
      let same = arrival_bytes tree sound big j (box j) (well j (omega arith)) (class_at tree events j) (length_word events j) fits.sender k in
      absurd (omega arith))
      (λ is none busy. departure_ended tree sound big wider j (box j) (well j (omega arith)) (even j (omega arith)) p k kid busy)

  -- ── the index ──

  -- event i: p finished a packet, or held none before it, so p chose there; event j: k finished a packet; in between k held packets
  pub index :
      (p k i j : ℕ) → Kid tree p k → i < j → j < last → Keeps tree events k (suc i) j
      → (bytes_of (after tree events i) p < bytes_of (after tree events (suc i)) p) ⊎ (held_by (after tree events i) p ≡ 0)
      → bytes_of (after tree events j) k < bytes_of (after tree events (suc j)) k
      → ticks * (share tree k * ((bytes_of (after tree events (suc j)) p - bytes_of (after tree events (suc i)) p) + largest_for tree events k last))
      ≤ ticks
      * (share tree k * largest_for tree events p last
      + whole * ((bytes_of (after tree events (suc j)) k - bytes_of (after tree events (suc i)) k) + largest_for tree events k last))
      + share tree k * (rounding (share tree k) * suc (packets_for tree events k (finished_in events (after tree events last).order (suc i) (suc j))))
  unfolding Ahead
  index p k i j kid before inside keeps due finished =
      let w = share tree k in
      let own = big k in
      let v₀ = virtual (box i).rows p in
      let v₁ = virtual (box j).rows p in
      let p₀ = bytes_of (box (suc i)) p in
      let p₁ = bytes_of (box (suc j)) p in
      let has_first = head_at tree events last ok (suc i) k (omega arith) kid.inside (keeps (suc i) (omega arith) before) in
      let has_second = head_at tree events last ok j k (omega arith) kid.inside (keeps j before (omega arith)) in
      let first = chose p k i kid (omega arith) has_first due in
      let pace = stretch tree events last ok p k (suc i) j kid before (omega arith) keeps in
      let second = ended p k j kid inside finished in
      let near = close tree sound big wider j (box j) (well j (omega arith)) (even j (omega arith)) p k kid has_second in
      let one_more = finishes_on tree events last ok k (suc i) j kid.inside before inside in
      let fewer = second.one_fewer in
      let rounded =
      mul-le-mul_left {m = suc (finishes tree events last ok k (suc i) j)} {n = finishes tree events last ok k (suc i) (suc j)} (w * rounding w) (omega arith) in
      let risen : v₀ + ticks * p₁ ≤ v₁ + ticks * p₀ = omega arith in
      let risen_share = mul-le-mul_left w risen in
      let left = mul-add w v₀ (ticks * p₁) in
      let right = mul-add w v₁ (ticks * p₀) in
      let left_ticks = mul_left_comm w ticks p₁ in
      let right_ticks = mul_left_comm w ticks p₀ in
      let most = share_whole w (sound.share_allowed k kid.positive kid.inside) in
      let own_parts = share_rest w own most in
      let goal_parts = mul-add w (p₁ - p₀) own in
      let finished_parts = mul-sub w p₁ p₀ in
      omega arith

  -- the same by the events and the order
  pub counted_index :
      (k i j : ℕ) → 0 < k → k < tree.rows → i < j → j < last → Backlogged tree events (after tree events last).order k i j
      → (0 < bytes_for tree events (parent tree k) (finished_in events (after tree events last).order i (suc i)))
      ⊎ (holds tree events (after tree events last).order (parent tree k) i ≡ 0)
      → 0 < bytes_for tree events k (finished_in events (after tree events last).order j (suc j))
      → ticks
      * (share tree k
      * (bytes_for tree events (parent tree k) (finished_in events (after tree events last).order (suc i) (suc j)) + largest_for tree events k last))
      ≤ ticks
      * (share tree k * largest_for tree events (parent tree k) last
      + whole * (bytes_for tree events k (finished_in events (after tree events last).order (suc i) (suc j)) + largest_for tree events k last))
      + share tree k * (rounding (share tree k) * suc (packets_for tree events k (finished_in events (after tree events last).order (suc i) (suc j))))
  unfolding Backlogged
  counted_index k i j positive inside before earlier backlogged due finished =
      let p = parent tree k in
      let above = sound.parent_row k positive inside in
      let all = bytes_in tree events last ok (suc i) (suc j) p (omega arith) earlier above in
      let own = bytes_in tree events last ok (suc i) (suc j) k (omega arith) earlier inside in
      let ends = bytes_in tree events last ok j (suc j) k (omega arith) earlier inside in
      let all_is : bytes_of (box (suc j)) p - bytes_of (box (suc i)) p ≡ bytes_for tree events p (finished_in events (after tree events last).order (suc i) (suc j)) = omega arith in
      let own_is : bytes_of (box (suc j)) k - bytes_of (box (suc i)) k ≡ bytes_for tree events k (finished_in events (after tree events last).order (suc i) (suc j)) = omega arith in
      rw (all_is, own_is) at (index p k i j (its_parent tree sound k positive inside) before earlier keeps (must due) (omega arith))
    where
      keeps : Keeps tree events k (suc i) j
      keeps n low high =
          let is : suc (pred n) ≡ n = omega arith in
          rw (holds_held tree events n last k (omega arith) ok inside) at
          (subst (λ (x : ℕ). 0 < holds tree events (after tree events last).order k x) is (backlogged (pred n) (omega arith) (omega arith)))

      must :
          (0 < bytes_for tree events (parent tree k) (finished_in events (after tree events last).order i (suc i)))
          ⊎ (holds tree events (after tree events last).order (parent tree k) i ≡ 0)
          → MustChoose (box i) (box (suc i)) (parent tree k)
      must (inl more) =
          let above = sound.parent_row k positive inside in
          let grown = bytes_in tree events last ok i (suc i) (parent tree k) (omega arith) (omega arith) above in
          inl (omega arith)
      must (inr none) =
          let above = sound.parent_row k positive inside in
          inr (sym (holds_held tree events i last (parent tree k) (omega arith) ok above) ∙ none)
