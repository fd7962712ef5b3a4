-- Sizes: bounds on every tag, byte count and packet count after n accepted events, from which all sums and products of a run are seen to fit.
-- Assumes nothing.
use Prim.Native.Nat.{ℕ, zero, suc, ◌+◌, ◌*◌, ◌-◌, ◌≤◌, ◌<◌, max}
use mathlib.Core.Path.{◌≡◌, refl, subst}
use mathlib.Core.Logic.{◌≢◌, ◌⊎◌, inl, inr, ⊎_elim}
use mathlib.Core.Bool.{Bool, true, false}
use native.Mathlib.Decide.{ℕ_discrete}
use native.Mathlib.Nat.{le_trans, mul-le-mul_left, mul-le-mul_right}
use native.Mathlib.Omega.{arith}
use lib.ListN.{get_or}
use Rattle.input.specs.Limits.{scale, whole, most_bytes}
use Rattle.input.specs.Classes.{Tree, parent, share}
use Rattle.input.specs.Events.{Events, length_word}
use Rattle.rules.specs.Box.{Box, Rows, fresh, start, finish, virtual, head, head_length, bytes_of, held_by}
use Rattle.rules.specs.Steps.{arrival, departure, after}
use Rattle.rules.specs.Promise.{within}
use Rattle.input.proofs.Charges.{charge_most}
use Rattle.laws.specs.Sound.{Sound, Kid, Inner, Sender}
use Rattle.laws.specs.Moves.{Others, Still, Headed, Dropped, Pick, Arriving, joins, opens, Departing, renews, passes_on, empties, ArrivalAt, DepartureAt}
use Rattle.laws.specs.Kept.{Kept}
use Rattle.laws.specs.History.{Accepted}
use Rattle.laws.specs.Pace.{Below}
use Rattle.rules.specs.Box.{line_class, left}
use Rattle.laws.proofs.Path.Tests.{cond_most, cond_least}
use Rattle.laws.proofs.Tree.Paths.{its_parent, parent_is_inner}
use Rattle.laws.proofs.Tree.Depths.{sender_or_inner}
use Rattle.laws.proofs.Tree.Trees.{share_whole}
use Rattle.laws.proofs.Path.ArrivalPath.{arrives_quiet}
use Rattle.laws.proofs.Path.DeparturePath.{departs_quiet}
use Rattle.laws.proofs.Event.Turns.{class_at, fewer, turn}
use Rattle.laws.proofs.Event.Outset.{zeros_at}
use Rattle.laws.proofs.Event.OneEvent.{arrival_at, arrival_held, arrival_bytes, arrival_since, arrival_parent_since, mark_most}
use Rattle.laws.proofs.Event.OneEvent.{left_next, departure_on, departure_off, departure_bytes}
use Rattle.laws.proofs.Event.Keeping.{arrival_kept, departure_kept, departure_fewer, kept_under}

-- ── one event, level by level ──

module _ (tree : Tree) (sound : Sound tree) (a b : Rows) (most m : ℕ) where
  -- a new start is an old tag, so only finishes and virtual times can pass m
  abbrev KidBelow : ℕ → Type 0
  KidBelow j = (start b j ≤ m) × (finish b j ≤ m + scale * most)

  abbrev KidsBelow : ℕ → Type 0
  KidsBelow p = (j : ℕ) → Kid tree p j → KidBelow j

  abbrev LevelBelow : ℕ → Type 0
  LevelBelow p = KidsBelow p × (virtual b p ≤ m + scale * most)

  module _ (below : Below tree a m) (small : (r : ℕ) → r < tree.rows → head_length b r ≤ most) where
    same_below : (j : ℕ) → j < tree.rows → start b j ≡ start a j → finish b j ≡ finish a j → KidBelow j
    same_below j inside s f = (omega (arith, below.starts_below j inside), omega (arith, below.finishes_below j inside))

    headed_below : (p c s : ℕ) → Kid tree p c → s ≤ m → Headed tree b c s → KidBelow c
    headed_below p c s kid old headed =
        let cost = charge_most (head_length b c) (share tree c) in
        let short = small c kid.inside in
        (omega (arith, headed.starts), omega (arith, headed.ends))

    kids_below : (p c : ℕ) → Others tree a b p c → KidBelow c → KidsBelow p
    kids_below p c others moved j kid = go (ℕ_discrete j c)
      where
        go : Dec (j ≡ c) → KidBelow j
        go (yes e) = rw e moved
        go (no other) = same_below j kid.inside (others j kid other).start_same (others j kid other).finish_same

    pick_below : (p k : ℕ) → p < tree.rows → KidsBelow p → Pick tree a b p k → virtual b p ≤ m + scale * most
    pick_below p k inside kids pick = go pick.no_further
      where
        go : (pick.raised ≡ virtual a p) ⊎ ((j : ℕ) → Kid tree p j → head b j ≢ 0 → pick.raised ≤ start b j) → virtual b p ≤ m + scale * most
        go (inl same) = omega (arith, below.virtuals_below p inside, small k pick.kid.inside)
        go (inr first) = omega (arith, first k pick.kid pick.waiting, (kids k pick.kid).0, small k pick.kid.inside)

    still_below : (p : ℕ) → p < tree.rows → Still tree a b p → LevelBelow p
    still_below p inside still = (
      λ j kid. same_below j kid.inside (still.kids j kid).start_same (still.kids j kid).finish_same,
      omega (arith, below.virtuals_below p inside, still.top.virtual_same),
    )

    arrival_level : (k p c : ℕ) → p < tree.rows → ArrivalAt tree a b k p c → LevelBelow p
    arrival_level k p c inside at = (kids, go at.move)
      where
        kids : KidsBelow p
        kids =
            kids_below p c at.others
            (headed_below p c (max (finish a c) (virtual a p)) at.kid
            (omega (arith, below.finishes_below c at.kid.inside, below.virtuals_below p inside))
            at.headed)

        go : Arriving tree a b p c → virtual b p ≤ m + scale * most
        go (joins has top) = omega (arith, below.virtuals_below p inside, top.virtual_same)
        go (opens l none pick) = pick_below p l inside kids pick

    departure_level : (k p c : ℕ) → p < tree.rows → DepartureAt tree a b k p c → LevelBelow p
    departure_level k p c inside at = go at.move
      where
        dropped : Dropped a b c → KidsBelow p
        dropped none = kids_below p c at.others (same_below c at.kid.inside none.start_same none.finish_same)

        go : Departing tree a b p c → LevelBelow p
        go (renews l headed pick) =
            let kids = kids_below p c at.others (headed_below p c (finish a c) at.kid (below.finishes_below c at.kid.inside) headed) in
            (kids, pick_below p l inside kids pick)
        go (passes_on l none pick) = (dropped none, pick_below p l inside (dropped none) pick)
        go (empties none same idle zero_length rest) = (dropped none, omega (arith, below.virtuals_below p inside))

    -- every row but the root is a child of an inner row, and every row but a sending class is an inner row
    levels_below :
        ((p : ℕ) → Inner tree p → LevelBelow p) → ((j : ℕ) → Sender tree j → virtual b j ≡ virtual a j)
        → start b 0 ≡ start a 0 → finish b 0 ≡ finish a 0 → Below tree b (m + scale * most)
    levels_below levels senders root_start root_finish =
        record {
          starts_below = λ r inside. omega (arith, (tags r inside).0);
          finishes_below = λ r inside. (tags r inside).1;
          virtuals_below = virtuals;
        }
      where
        tags : (r : ℕ) → r < tree.rows → KidBelow r
        tags zero inside = same_below 0 inside root_start root_finish
        tags (suc r) inside =
            let kid = its_parent tree sound (suc r) (omega arith) inside in
            (levels (parent tree (suc r)) (parent_is_inner tree sound (parent tree (suc r)) (suc r) kid)).0 (suc r) kid

        virtuals : (r : ℕ) → r < tree.rows → virtual b r ≤ m + scale * most
        virtuals r inside =
            ⊎_elim (λ sender. omega (arith, below.virtuals_below r inside, senders r sender)) (λ inner. (levels r inner).1)
            (sender_or_inner tree sound r inside)

-- one event raises no tag by more than its charge for a packet of `most` bytes at the least share
module _
    (tree : Tree) (sound : Sound tree) (big : ℕ → ℕ) (wider : (j : ℕ) → 0 < j → j < tree.rows → big j ≤ big (parent tree j))
    (most : ℕ) (bound : (r : ℕ) → r < tree.rows → big r ≤ most) where
  module _ (now : ℕ) (box : Box) (kept : Kept tree big now box) (m : ℕ) (below : Below tree box.rows m) where
    arrival_below : (k length : ℕ) → Sender tree k → 0 < length → length ≤ big k → Below tree (arrival tree now k length box).rows (m + scale * most)
    unfolding arrival
    arrival_below k length sender some small =
        let quiet = arrives_quiet tree sound box.rows kept.rows_full kept.settled now k length sender some in
        levels_below tree sound box.rows (arrival tree now k length box).rows most m below heads
        (λ p inner. go p inner.inside (arrival_at tree sound big now box kept k length sender some p inner))
        quiet.0 quiet.1 quiet.2
      where
        next : Rows
        next = (arrival tree now k length box).rows

        heads : (r : ℕ) → r < tree.rows → head_length next r ≤ most
        heads r inside = omega (arith, (arrival_kept tree sound big wider now box kept k length sender some small).heads_small r inside, bound r inside)

        go : (p : ℕ) → p < tree.rows → Still tree box.rows next p ⊎ ((c : ℕ) × ArrivalAt tree box.rows next k p c) → LevelBelow tree sound box.rows next most m p
        go p inside (inl still) = still_below tree sound box.rows next most m below heads p inside still
        go p inside (inr at) = arrival_level tree sound box.rows next most m below heads k p at.0 inside at.1

    departure_below : head box.rows 0 ≢ 0 → Below tree (departure tree box).rows (m + scale * most)
    unfolding departure
    departure_below busy =
        let quiet = departs_quiet tree sound box.rows kept.rows_full kept.settled busy (left box) (left_next tree sound big now box kept busy) in
        levels_below tree sound box.rows next most m below heads (λ p inner. go p inner (within tree p (line_class box)) refl)
        quiet.0 quiet.1 quiet.2
      where
        next : Rows
        next = (departure tree box).rows

        heads : (r : ℕ) → r < tree.rows → head_length next r ≤ most
        heads r inside = omega (arith, (departure_kept tree sound big wider now box kept busy).heads_small r inside, bound r inside)

        go : (p : ℕ) → Inner tree p → (on : Bool) → within tree p (line_class box) ≡ on → LevelBelow tree sound box.rows next most m p
        go p inner true on =
            let at = departure_on tree sound big now box kept busy p inner on in
            departure_level tree sound box.rows next most m below heads (line_class box) p at.0 inner.inside at.1
        go p inner false off =
            still_below tree sound box.rows next most m below heads p inner.inside (departure_off tree sound big now box kept busy p inner off)

-- ── a run ──

-- no packet of an accepted event has more bytes, whatever the row
abbrev pub few : ℕ → ℕ
few r = most_bytes

module _ (tree : Tree) (events : Events) where
  earlier : (n : ℕ) → Accepted tree events (suc n) → Accepted tree events n
  earlier n ok = fewer tree events n (suc n) (omega arith) ok

  -- a bound that is the same for a row and its parent
  pub few_wider : (j : ℕ) → 0 < j → j < tree.rows → few j ≤ few (parent tree j)
  few_wider j positive inside = omega arith

  -- a run's box is well kept with it
  pub small_kept : (n : ℕ) → Accepted tree events n → Kept tree few n (after tree events n)
  small_kept n ok = kept_under tree events n ok few few_wider (λ i before fits. fits.few_bytes) n (omega arith)

  pub tags_below : (n : ℕ) → Accepted tree events n → Below tree (after tree events n).rows (n * (scale * most_bytes))
  unfolding after fresh
  tags_below zero ok =
      record {
        starts_below = λ r inside. omega (arith, zeros_at r);
        finishes_below = λ r inside. omega (arith, zeros_at r);
        virtuals_below = λ r inside. omega (arith, zeros_at r);
      }
  tags_below (suc n) ok =
      let m = n * (scale * most_bytes) in
      let box = after tree events n in
      let keeps = small_kept n (earlier n ok) in
      let below = tags_below n (earlier n ok) in
      subst (Below tree (after tree events (suc n)).rows) (omega arith)
      (turn tree events (suc n) ok n (omega arith) (λ (box : Box). Below tree box.rows (m + scale * most_bytes))
      (λ is fits. arrival_below tree ok.sound few few_wider most_bytes (λ r inside. omega arith) n box keeps m below _ _ fits.sender fits.some_bytes fits.few_bytes)
      (λ is none busy. departure_below tree ok.sound few few_wider most_bytes (λ r inside. omega arith) n box keeps m below busy))

  pub heads_below : (n r : ℕ) → Accepted tree events n → r < tree.rows → head_length (after tree events n).rows r ≤ most_bytes
  heads_below n r ok inside = (small_kept n ok).heads_small r inside

  pub bytes_below : (n r : ℕ) → Accepted tree events n → r < tree.rows → bytes_of (after tree events n) r ≤ n * most_bytes
  unfolding after fresh
  bytes_below zero r ok inside = omega (arith, zeros_at r)
  bytes_below (suc n) r ok inside =
      let box = after tree events n in
      let keeps = small_kept n (earlier n ok) in
      let before = bytes_below n r (earlier n ok) inside in
      let small = heads_below n 0 (earlier n ok) ok.sound.some_rows in
      turn tree events (suc n) ok n (omega arith) (λ (box : Box). bytes_of box r ≤ suc n * most_bytes)
      (λ is fits. omega (arith, arrival_bytes tree ok.sound few n box keeps (class_at tree events n) (length_word events n) fits.sender r))
      (λ is none busy. rw (departure_bytes tree ok.sound few n box keeps busy r inside)
      (cond_most (within tree r (line_class box)) _ _ _ (omega arith) (omega arith)))

  pub held_below : (n r : ℕ) → Accepted tree events n → r < tree.rows → held_by (after tree events n) r ≤ n
  unfolding after fresh
  held_below zero r ok inside = omega (arith, zeros_at r)
  held_below (suc n) r ok inside =
      let box = after tree events n in
      let keeps = small_kept n (earlier n ok) in
      let before = held_below n r (earlier n ok) inside in
      turn tree events (suc n) ok n (omega arith) (λ (box : Box). held_by box r ≤ suc n)
      (λ is fits. rw (arrival_held tree ok.sound few n box keeps (class_at tree events n) (length_word events n) fits.sender r inside)
      (cond_most (within tree r (class_at tree events n)) _ _ _ (omega arith) (omega arith)))
      (λ is none busy. omega (arith, departure_fewer tree ok.sound few few_wider n box keeps busy r inside))

  -- a backlog's byte counts are at most those of now
  pub since_below : (n r : ℕ) → Accepted tree events n → r < tree.rows → get_or (after tree events n).since r 0 ≤ bytes_of (after tree events n) r
  unfolding after fresh arrival departure
  since_below zero r ok inside = omega arith
  since_below (suc n) r ok inside =
      let box = after tree events n in
      let keeps = small_kept n (earlier n ok) in
      let before = since_below n r (earlier n ok) inside in
      turn tree events (suc n) ok n (omega arith) (λ (box : Box). get_or box.since r 0 ≤ bytes_of box r)
      (λ is fits. rw (arrival_since tree ok.sound few n box keeps (class_at tree events n) (length_word events n) fits.sender r inside)
      (mark_most (within tree r (class_at tree events n)) (held_by box r) (bytes_of box r) (get_or box.since r 0) before))
      (λ is none busy. rw (departure_bytes tree ok.sound few n box keeps busy r inside)
      (cond_least (within tree r (line_class box)) _ _ _ (omega arith) before))

  pub parent_since_below :
      (n r : ℕ) → Accepted tree events n → parent tree r < tree.rows → r < tree.rows
      → get_or (after tree events n).parent_since r 0 ≤ bytes_of (after tree events n) (parent tree r)
  unfolding after fresh arrival departure
  parent_since_below zero r ok above inside = omega (arith, zeros_at r)
  parent_since_below (suc n) r ok above inside =
      let box = after tree events n in
      let keeps = small_kept n (earlier n ok) in
      let before = parent_since_below n r (earlier n ok) above inside in
      turn tree events (suc n) ok n (omega arith) (λ (box : Box). get_or box.parent_since r 0 ≤ bytes_of box (parent tree r))
      (λ is fits. rw (arrival_parent_since tree ok.sound few n box keeps (class_at tree events n) (length_word events n) fits.sender r inside)
      (mark_most (within tree r (class_at tree events n)) (held_by box r) (bytes_of box (parent tree r)) (get_or box.parent_since r 0) before))
      (λ is none busy. rw (departure_bytes tree ok.sound few n box keeps busy (parent tree r) above)
      (cond_least (within tree (parent tree r) (line_class box)) _ _ _ (omega arith) before))

  -- so the two products of a lag are small
  pub lag_terms_below :
      (n r : ℕ) → Accepted tree events n → 0 < r → r < tree.rows
      → (share tree r * (bytes_of (after tree events n) (parent tree r) - get_or (after tree events n).parent_since r 0) ≤ whole * (n * most_bytes))
      × (whole * (bytes_of (after tree events n) r - get_or (after tree events n).since r 0) ≤ whole * (n * most_bytes))
  lag_terms_below n r ok positive inside =
      let parents = bytes_below n (parent tree r) ok (ok.sound.parent_row r positive inside) in
      let own = bytes_below n r ok inside in
      let part = share_whole (share tree r) (ok.sound.share_allowed r positive inside) in
      let fewer_bytes : bytes_of (after tree events n) (parent tree r) - get_or (after tree events n).parent_since r 0 ≤ n * most_bytes = omega arith in
      (le_trans (mul-le-mul_left (share tree r) fewer_bytes) (mul-le-mul_right (n * most_bytes) part), omega arith)
