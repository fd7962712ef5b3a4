-- A level's tags stay under its limit over every event, and a start stays at most its finish.
-- Assumes nothing.
use Prim.Native.Nat.{ℕ, suc, ◌+◌, ◌*◌, ◌≤◌, ◌<◌, max}
use mathlib.Core.Path.{◌≡◌, refl, sym, subst, ◌∙◌}
use mathlib.Core.Logic.{◌≢◌, ◌⊎◌, inl, inr}
use native.Mathlib.Decide.{ℕ_discrete}
use native.Mathlib.Nat.{mul-le-mul_left}
use native.Mathlib.Omega.{arith}
use Rattle.input.specs.Limits.{scale}
use Rattle.input.specs.Classes.{Tree, share}
use Rattle.rules.specs.Box.{Rows, start, finish, virtual, head, head_length, has_head}
use Rattle.input.proofs.Charges.{charge_most}
use Rattle.laws.specs.Sound.{Sound, Kid, Inner}
use Rattle.laws.specs.Moves.{SameHead, SameKid, SameTop, Settled, Still, Others, Headed, Dropped, Pick}
use Rattle.laws.specs.Moves.{Arriving, joins, opens, Departing, renews, passes_on, empties, ArrivalAt, DepartureAt}
use Rattle.laws.specs.Kept.{Taken, none, one}
use Rattle.laws.specs.Sizes.{level_most, SizedLevel, Forward}
use Rattle.laws.proofs.Level.Heads.{some_has, none_has}
use Rattle.laws.proofs.Level.Modes.{not_root}
use Rattle.laws.proofs.Level.Levels.{none_taken, picked, still_taken, was_taken}

-- ── a level's limit: a finish raises it by one largest packet's charge, and so does the child that its row takes ──

module _ (most gone : ℕ) (a : Rows) (p : ℕ) where
  idle_limit : head a p ≡ 0 → level_most most gone a p ≡ scale * most * gone
  idle_limit no_head = rw (none_has a p no_head) (omega arith)

  busy_limit : head a p ≢ 0 → level_most most gone a p ≡ scale * most * gone + scale * most
  busy_limit has = rw (some_has a p has) (omega arith)

-- it goes by p's head, and grows with the packets that have left
more_limit :
    (most gone left : ℕ) (a b : Rows) (p : ℕ) → gone ≤ left → head b p ≡ head a p → level_most most gone a p ≤ level_most most left b p
unfolding has_head
more_limit most gone left a b p more same = rw same (mul-le-mul_left (scale * most) (omega arith))

-- a row that takes a child has a head
pick_has : (tree : Tree) (a b : Rows) (p k : ℕ) → Pick tree a b p k → head b p ≢ 0
pick_has tree a b p k pick idles = pick.waiting (sym pick.takes.packet_same ∙ idles)

-- ── one level, one event: under `low` before it, under `high` after it ──

module _
    (tree : Tree) (sound : Sound tree) (most : ℕ) (a b : Rows) (after : Settled tree b)
    (small : (r : ℕ) → r < tree.rows → head_length b r ≤ most) (p low high : ℕ) where
  -- p's children as they are in b, t among them taken, and p's virtual time as it is in a
  record Ready (t : ℕ) : Type 0 where
    time : virtual a p ≤ low
    waiting : (j : ℕ) → Kid tree p j → j ≢ t → head b j ≢ 0 → start b j ≤ low
    resting : (j : ℕ) → Kid tree p j → j ≢ t → head b j ≡ 0 → finish b j ≤ low

  -- only child c moves; t was the taken child and u is: what is to be shown is about c
  gather :
      (c : ℕ) → Others tree a b p c → (t u : ℕ) → SizedLevel tree low a p t → ((j : ℕ) → Kid tree p j → j ≢ c → j ≢ u → j ≢ t)
      → (Kid tree p c → head b c ≢ 0 → start b c ≤ low) → (Kid tree p c → head b c ≡ 0 → finish b c ≤ low) → Ready u
  gather c others t u sized free waits_c rests_c =
      record {
        time = sized.virtual_sized;
        waiting = λ j kid other has. waiting_at j kid other has (ℕ_discrete j c);
        resting = λ j kid other idles. resting_at j kid other idles (ℕ_discrete j c);
      }
    where
      waiting_at : (j : ℕ) → Kid tree p j → j ≢ u → head b j ≢ 0 → Dec (j ≡ c) → start b j ≤ low
      waiting_at j kid other has (yes at) = rw at (waits_c (rw at at kid) (rw at at has))
      waiting_at j kid other has (no apart) =
          let same = others j kid apart in
          rw same.start_same (sized.waiting_sized j kid (free j kid apart other) (λ idles. has (same.head_same.packet_same ∙ idles)))

      resting_at : (j : ℕ) → Kid tree p j → j ≢ u → head b j ≡ 0 → Dec (j ≡ c) → finish b j ≤ low
      resting_at j kid other idles (yes at) = rw at (rests_c (rw at at kid) (rw at at idles))
      resting_at j kid other idles (no apart) =
          let same = others j kid apart in
          rw same.finish_same (sized.idle_sized j kid (free j kid apart other) (sym same.head_same.packet_same ∙ idles))

  -- p's virtual time stays, and so does its taken child, if it has one
  stays : (t : ℕ) → low ≤ high → virtual b p ≡ virtual a p → Ready t → (Kid tree p t → finish b t ≤ low) → SizedLevel tree high b p t
  stays t grows same ready taken =
      record {
        virtual_sized = let time = ready.time in omega arith;
        waiting_sized = λ j kid other has. let start_low = ready.waiting j kid other has in omega arith;
        idle_sized = λ j kid other idles. let finish_low = ready.resting j kid other idles in omega arith;
        taken_sized = λ kid. let finish_low = taken kid in omega arith;
      }

  still_sized : (t : ℕ) → low ≤ high → Still tree a b p → SizedLevel tree low a p t → SizedLevel tree high b p t
  still_sized t grows still sized =
      stays t grows still.top.virtual_same
      (gather 0 (λ j kid other. still.kids j kid) t t sized (λ j kid apart other. other) (λ kid. absurd (not_root kid refl)) (λ kid. absurd (not_root kid refl)))
      (λ kid. rw (still.kids t kid).finish_same (sized.taken_sized kid))

  -- p takes its child k: its virtual time and that child's finish rise, by one packet's charge at most
  module _ (k : ℕ) (pick : Pick tree a b p k) (room : low + scale * most ≤ high) where
    raised_low : Ready 0 → pick.raised ≤ low
    raised_low ready = go pick.no_further
      where
        go : (pick.raised ≡ virtual a p) ⊎ ((j : ℕ) → Kid tree p j → head b j ≢ 0 → pick.raised ≤ start b j) → pick.raised ≤ low
        go (inl same) = let time = ready.time in omega arith
        go (inr first) =
            let least = first k pick.kid pick.waiting in
            let its_start = ready.waiting k pick.kid (not_root pick.kid) pick.waiting in
            omega arith

    takes : Ready 0 → SizedLevel tree high b p k
    takes ready =
        let short = small k pick.kid.inside in
        let tag = after.tagged k pick.kid.positive pick.kid.inside pick.waiting in
        let cost = charge_most (head_length b k) (share tree k) in
        let raised = raised_low ready in
        let its_start = ready.waiting k pick.kid (not_root pick.kid) pick.waiting in
        record {
          virtual_sized = omega (arith, pick.passes);
          waiting_sized = λ j kid other has. let start_low = ready.waiting j kid (not_root kid) has in omega arith;
          idle_sized = λ j kid other idles. let finish_low = ready.resting j kid (not_root kid) idles in omega arith;
          taken_sized = λ kid. omega arith;
        }

    pick_sized : Ready 0 → (t : ℕ) → Taken tree b p t → SizedLevel tree high b p t
    pick_sized ready t is_taken = subst (λ (u : ℕ). SizedLevel tree high b p u) (sym (picked tree sound a b after p k pick t is_taken)) (takes ready)

  -- child c gets a head
  wakes :
      (c t : ℕ) → c ≢ t → Others tree a b p c → head a c ≡ 0 → Headed tree b c (max (finish a c) (virtual a p)) → SizedLevel tree low a p t → Ready t
  wakes c t other others none_before headed sized =
      gather c others t t sized (λ j kid apart other_j. other_j)
      (λ kid has. let its_finish = sized.idle_sized c kid other none_before in
      let time = sized.virtual_sized in
      omega (arith, headed.starts))
      (λ kid idles. absurd (headed.has idles))

  -- p has a head already, from a child that stays as it is
  joined_sized :
      (k c t : ℕ) → low ≤ high → ArrivalAt tree a b k p c → head a p ≢ 0 → SameTop a b p → (u : ℕ) → Kid tree p u → SameHead a p a u
      → ((t : ℕ) → Taken tree a p t → SizedLevel tree low a p t) → Taken tree b p t → SizedLevel tree high b p t
  joined_sized k c t grows move has top u kid same sized is_taken =
      subst (λ (e : ℕ). SizedLevel tree high b p e) (sym (still_taken tree sound a b after p u has top kid same kept t is_taken))
      (stays u grows top.virtual_same (wakes c u (λ is. other (sym is)) move.others move.none_before move.headed before)
      (λ kid_u. rw kept.finish_same (before.taken_sized kid_u)))
    where
      other : u ≢ c
      other is = has (sym same.packet_same ∙ rw is move.none_before)

      kept : SameKid a b u
      kept = move.others u kid other

      before : SizedLevel tree low a p u
      before = sized u (one has kid same)

  -- child c's packet has finished: it has another or none
  departure_ready : (k c : ℕ) → DepartureAt tree a b k p c → ((t : ℕ) → Taken tree a p t → SizedLevel tree low a p t) → Ready 0
  departure_ready k c move sized = go move.move
    where
      before : SizedLevel tree low a p c
      before = sized c (one move.head_before move.kid move.taken)

      dropped : Dropped a b c → Ready 0
      dropped drop =
          gather c move.others c 0 before (λ j kid apart other. apart) (λ kid has. absurd (has drop.none))
          (λ kid idles. rw drop.finish_same (before.taken_sized kid))

      go : Departing tree a b p c → Ready 0
      go (renews u headed pick) =
          gather c move.others c 0 before (λ j kid apart other. apart) (λ kid has. rw headed.starts (before.taken_sized kid))
          (λ kid idles. absurd (headed.has idles))
      go (passes_on u drop pick) = dropped drop
      go (empties drop same no_head no_length idles) = dropped drop

-- ── one level, by its limit ──

module _
    (tree : Tree) (sound : Sound tree) (most gone : ℕ) (a b : Rows) (before : Settled tree a) (after : Settled tree b)
    (small : (r : ℕ) → r < tree.rows → head_length b r ≤ most) (p : ℕ) (inner : Inner tree p) where
  -- p's level in a state, whichever child it has taken
  abbrev LevelSized : ℕ → Rows → Type 0
  LevelSized left rows = (t : ℕ) → Taken tree rows p t → SizedLevel tree (level_most most left rows p) rows p t

  pub still_level : (left : ℕ) → gone ≤ left → Still tree a b p → LevelSized gone a → LevelSized left b
  still_level left more still sized t is_taken =
      still_sized tree sound most a b after small p (level_most most gone a p) (level_most most left b p) t
      grows still (sized t (was_taken tree a b p t still is_taken))
    where
      grows : level_most most gone a p ≤ level_most most left b p
      grows = more_limit most gone left a b p more still.top.head_same.packet_same

  pub arrival_level : (k c : ℕ) → ArrivalAt tree a b k p c → LevelSized gone a → LevelSized gone b
  arrival_level k c move sized t is_taken = go move.move
    where
      low : ℕ
      low = level_most most gone a p

      high : ℕ
      high = level_most most gone b p

      go : Arriving tree a b p c → SizedLevel tree high b p t
      go (joins has top) =
          let from = before.from_child p inner has in
          joined_sized tree sound most a b after small p low high k c t (more_limit most gone gone a b p (omega arith) top.head_same.packet_same)
          move has top from.0 from.1 from.2 sized is_taken
      go (opens u no_head pick) =
          pick_sized tree sound most a b after small p low high u pick (omega (arith, idle_limit most gone a p no_head, busy_limit most gone b p (pick_has tree a b p u pick)))
          (wakes tree sound most a b after small p low high c 0 (not_root move.kid) move.others move.none_before move.headed (sized 0 (none no_head refl)))
          t is_taken

  pub departure_level : (k c : ℕ) → DepartureAt tree a b k p c → LevelSized gone a → LevelSized (suc gone) b
  departure_level k c move sized t is_taken = go move.move
    where
      low : ℕ
      low = level_most most gone a p

      high : ℕ
      high = level_most most (suc gone) b p

      ready : Ready tree sound most a b after small p low high 0
      ready = departure_ready tree sound most a b after small p low high k c move sized

      again : (u : ℕ) → Pick tree a b p u → SizedLevel tree high b p t
      again u pick =
          pick_sized tree sound most a b after small p low high u pick
          (omega (arith, busy_limit most gone a p move.head_before, busy_limit most (suc gone) b p (pick_has tree a b p u pick))) ready t is_taken

      go : Departing tree a b p c → SizedLevel tree high b p t
      go (renews u headed pick) = again u pick
      go (passes_on u drop pick) = again u pick
      go (empties drop same no_head no_length idles) =
          subst (λ (u : ℕ). SizedLevel tree high b p u) (sym (none_taken tree b p t no_head is_taken))
          (stays tree sound most a b after small p low high 0 (omega (arith, busy_limit most gone a p move.head_before, idle_limit most (suc gone) b p no_head))
          same ready (λ root. absurd (not_root root refl)))

-- ── a start is at most its finish ──

-- a child with a new head
pub headed_forward : (tree : Tree) (b : Rows) (c s : ℕ) → Headed tree b c s → start b c ≤ finish b c
headed_forward tree b c s headed = omega (arith, headed.starts, headed.ends)

-- and the others, over one event at p's level
module _ (tree : Tree) (a b : Rows) (forward : Forward tree a) (p : ℕ) where
  pub same_forward : (j : ℕ) → Kid tree p j → SameKid a b j → start b j ≤ finish b j
  same_forward j kid same = omega (arith, forward j kid.inside, same.start_same, same.finish_same)

  pub kids_forward : (c : ℕ) → Others tree a b p c → start b c ≤ finish b c → (j : ℕ) → Kid tree p j → start b j ≤ finish b j
  kids_forward c others moved j kid = go (ℕ_discrete j c)
    where
      go : Dec (j ≡ c) → start b j ≤ finish b j
      go (yes at) = rw at moved
      go (no other) = same_forward j kid (others j kid other)

  pub departed_forward : (k c : ℕ) → DepartureAt tree a b k p c → start b c ≤ finish b c
  departed_forward k c move = go move.move
    where
      dropped : Dropped a b c → start b c ≤ finish b c
      dropped drop = omega (arith, forward c move.kid.inside, drop.start_same, drop.finish_same)

      go : Departing tree a b p c → start b c ≤ finish b c
      go (renews u headed pick) = headed_forward tree b c (finish a c) headed
      go (passes_on u drop pick) = dropped drop
      go (empties drop same no_head no_length idles) = dropped drop
