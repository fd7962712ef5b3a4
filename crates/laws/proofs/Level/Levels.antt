-- A level stays balanced over every event, for any shares and any depth.
-- Assumes nothing.
use Prim.Native.Nat.{ℕ, ◌+◌, ◌*◌, ◌-◌, ◌≤◌, ◌<◌, max}
use mathlib.Core.Path.{◌≡◌, refl, sym, ◌∙◌, ap, subst}
use mathlib.Core.Logic.{◌≢◌, ◌⊎◌, inl, inr}
use native.Mathlib.Nat.{mul-add, mul_left_comm, mul-zero, mul-le-mul_left}
use native.Mathlib.Decide.{ℕ_discrete, dec_le}
use native.Mathlib.Omega.{arith}
use lib.Dec.{eqb}
use borrow.Author.Tests.{ne_eqb}
use Rattle.input.specs.Limits.{whole, ticks, scale}
use Rattle.input.specs.Shares.{charge}
use Rattle.input.specs.Classes.{Tree, parent, share}
use Rattle.rules.specs.Box.{Rows, start, finish, virtual, head, head_length, head_class}
use Rattle.laws.specs.Sound.{Sound, Kid, Inner}
use Rattle.laws.specs.Moves.{SameHead, SameKid, SameTop, Settled, Still, Others, Headed, Dropped, Pick}
use Rattle.laws.specs.Moves.{Arriving, joins, opens, Departing, renews, passes_on, empties, ArrivalAt, DepartureAt}
use Rattle.laws.specs.Level.{Mode, idle, waits, taken, Due, Behind}
use Rattle.laws.specs.Kept.{weight, spare, mode, Taken, none, one, Ahead, Balanced}
use Rattle.laws.proofs.Level.Heads.{same_row}
use Rattle.laws.proofs.Tree.Paths.{one_child}
use Rattle.laws.proofs.Tree.Trees.{share_whole, share_rest, charge_covers, charge_rounded}
use Rattle.laws.proofs.Level.Balance.{Apart, zero_behind, same_behind, wake_behind, renew_behind, drop_behind, pick_behind, due_behind}
use Rattle.laws.proofs.Level.Modes.{Waiting, shares_whole, weight_kid, not_root, mode_taken, mode_waits, mode_idle, mode_says, mode_same}

-- p's level is balanced, whichever child it has taken
abbrev pub Even : Tree → (ℕ → ℕ) → Rows → ℕ → Type 0
Even tree big a p = (t : ℕ) → Taken tree a p t → Balanced tree big a p t

-- where p has no head it has taken nobody
pub none_taken : (tree : Tree) (a : Rows) (p t : ℕ) → head a p ≡ 0 → Taken tree a p t → t ≡ 0
none_taken tree a p t no_head (none idles is) = is
none_taken tree a p t no_head (one has kid same) = absurd (has no_head)

-- two children of p with p's head are the same
pub one_taken :
    (tree : Tree) → Sound tree → (a : Rows) → Settled tree a → (p c e : ℕ) → head a p ≢ 0 → Kid tree p c → Kid tree p e → SameHead a p a c
    → SameHead a p a e → c ≡ e
one_taken tree sound a settled p c e has kid_c kid_e same_c same_e =
    one_child tree sound p c e (head_class a c) (settled.of_sender c kid_c.inside (has_one c same_c)).inside kid_c kid_e
    (settled.of_part c kid_c.inside (has_one c same_c))
    (rw (same_c.class_same, ← same_e.class_same) (settled.of_part e kid_e.inside (has_one e same_e)))
  where
    has_one : (j : ℕ) → SameHead a p a j → head a j ≢ 0
    has_one j same none_there = has (sym same.packet_same ∙ none_there)

-- where p takes its child k, that is the one that it has taken
pub picked : (tree : Tree) → Sound tree → (a b : Rows) → Settled tree b → (p k : ℕ) → Pick tree a b p k → (t : ℕ) → Taken tree b p t → t ≡ k
picked tree sound a b after p k pick t (none no_head is) = absurd (pick.waiting (sym pick.takes.packet_same ∙ no_head))
picked tree sound a b after p k pick t (one has kid same) =
    let takes = pick.takes in
    one_taken tree sound b after p t k has kid pick.kid same (record { packet_same = cc; length_same = cc; class_same = cc })

-- where p keeps its head and the child u that it had taken stays as it is, u is the one that it has taken
pub still_taken :
    (tree : Tree) → Sound tree → (a b : Rows) → Settled tree b → (p u : ℕ) → head a p ≢ 0 → SameTop a b p → Kid tree p u → SameHead a p a u
    → SameKid a b u → (t : ℕ) → Taken tree b p t → t ≡ u
still_taken tree sound a b after p u has top kid same stays t (none no_head is) = absurd (has (sym top.head_same.packet_same ∙ no_head))
still_taken tree sound a b after p u has top kid same stays t (one has_b kid_t same_t) =
    one_taken tree sound b after p t u has_b kid_t kid same_t (record { packet_same = cc; length_same = cc; class_same = cc })

-- where nothing happens at p's level, it had taken the child that it has
pub was_taken : (tree : Tree) (a b : Rows) (p t : ℕ) → Still tree a b p → Taken tree b p t → Taken tree a p t
was_taken tree a b p t still (none no_head is) = none (sym still.top.head_same.packet_same ∙ no_head) is
was_taken tree a b p t still (one has kid same) =
    let kept = still.kids t kid in
    let top = still.top in
    one (λ idles. has (top.head_same.packet_same ∙ idles)) kid (record { packet_same = cc; length_same = cc; class_same = cc })

-- nobody is too far behind at p's level, with its rows in the modes m and its virtual time v
abbrev Level : Tree → (ℕ → ℕ) → ℕ → (ℕ → Mode) → ℕ → Type 0
Level tree big p m v = Behind tree.rows (weight tree p) (spare tree p) m v (big p)

module _ (tree : Tree) (sound : Sound tree) (big : ℕ → ℕ) (wider : (j : ℕ) → 0 < j → j < tree.rows → big j ≤ big (parent tree j)) where
  -- who is not too far ahead is not when the virtual time has grown
  ahead_keeps : (a b : Rows) (p j x : ℕ) → virtual a p ≤ virtual b p → Ahead tree big a p j x → Ahead tree big b p j x
  unfolding Ahead
  ahead_keeps a b p j x grows ahead =
      let room = mul-le-mul_left (share tree j) grows in
      omega arith

  -- nor is a child that starts where it finished or at the virtual time, whichever is later
  ahead_wakes : (a : Rows) (p j f : ℕ) → Ahead tree big a p j f → Ahead tree big a p j (max f (virtual a p))
  unfolding Ahead
  ahead_wakes a p j f ahead = go (dec_le f (virtual a p))
    where
      go : Dec (f ≤ virtual a p) → Ahead tree big a p j (max f (virtual a p))
      go (yes before) =
          let time : share tree j * max f (virtual a p) ≤ share tree j * virtual a p = mul-le-mul_left (share tree j) (omega arith) in
          omega arith
      go (no after) =
          let time : share tree j * max f (virtual a p) ≤ share tree j * f = mul-le-mul_left (share tree j) (omega arith) in
          omega arith

  module _ (a b : Rows) (before : Settled tree a) (after : Settled tree b) (small : (r : ℕ) → r < tree.rows → head_length b r ≤ big r) (p : ℕ) (inner : Inner tree p) where
    -- p's children as they are in b, t among them taken, and p's virtual time as it is in a
    pub record Ready (t : ℕ) : Type 0 where
      pub waiting : (j : ℕ) → Kid tree p j → j ≢ t → head b j ≢ 0 → Ahead tree big a p j (start b j)
      resting : (j : ℕ) → Kid tree p j → j ≢ t → head b j ≡ 0 → Ahead tree big a p j (finish b j)
      level : Level tree big p (mode tree b p t) (virtual a p)

    -- only child c moves; t was the taken child and u is: what is to be shown is about c
    module _ (c : ℕ) (others : Others tree a b p c) (t u : ℕ) where
      apart : ((j : ℕ) → Kid tree p j → j ≢ c → eqb j u ≡ eqb j t) → Apart tree.rows c (mode tree a p t) (mode tree b p u)
      apart same j inside other = mode_same tree a b p t u j inside (λ kid. (same j kid other, others j kid other))

      gather :
          Balanced tree big a p t → ((j : ℕ) → Kid tree p j → j ≢ c → j ≢ u → j ≢ t)
          → (Kid tree p c → head b c ≢ 0 → Ahead tree big a p c (start b c))
          → (Kid tree p c → head b c ≡ 0 → Ahead tree big a p c (finish b c))
          → Level tree big p (mode tree b p u) (virtual a p) → Ready u
      gather balanced free waits_c rests_c level =
          record {
            waiting = λ j kid other has. waiting_at j kid other has (ℕ_discrete j c);
            resting = λ j kid other idles. resting_at j kid other idles (ℕ_discrete j c);
            level = level;
          }
        where
          waiting_at : (j : ℕ) → Kid tree p j → j ≢ u → head b j ≢ 0 → Dec (j ≡ c) → Ahead tree big a p j (start b j)
          waiting_at j kid other has (yes at) = rw at (waits_c (rw at at kid) (rw at at has))
          waiting_at j kid other has (no apart_c) =
              let same = others j kid apart_c in
              rw same.start_same (balanced.ahead_waiting j kid (free j kid apart_c other) (λ idles. has (same.head_same.packet_same ∙ idles)))

          resting_at : (j : ℕ) → Kid tree p j → j ≢ u → head b j ≡ 0 → Dec (j ≡ c) → Ahead tree big a p j (finish b j)
          resting_at j kid other idles (yes at) = rw at (rests_c (rw at at kid) (rw at at idles))
          resting_at j kid other idles (no apart_c) =
              let same = others j kid apart_c in
              rw same.finish_same (balanced.ahead_idle j kid (free j kid apart_c other) (sym same.head_same.packet_same ∙ idles))

    -- p's virtual time stays, and so does its taken child, if it has one
    stays :
        (t : ℕ) → virtual b p ≡ virtual a p → Ready t → (Kid tree p t → Ahead tree big a p t (finish b t))
        → (Kid tree p t → start b t + ticks * head_length b p ≤ virtual a p) → Balanced tree big b p t
    stays t same ready ahead started =
        record {
          ahead_waiting = λ j kid other has. on j (start b j) (ready.waiting j kid other has);
          ahead_idle = λ j kid other idles. on j (finish b j) (ready.resting j kid other idles);
          ahead_taken = λ kid. on t (finish b t) (ahead kid);
          started = λ kid. rw same (started kid);
          behind = rw same ready.level;
        }
      where
        on : (j x : ℕ) → Ahead tree big a p j x → Ahead tree big b p j x
        on j x = ahead_keeps a b p j x (omega arith)

    -- the same head at p, from the same child
    same_taken :
        (t : ℕ) → SameTop a b p → (Kid tree p t → SameKid a b t) → Balanced tree big a p t → Ready t → Balanced tree big b p t
    same_taken t top same balanced ready =
        stays t top.virtual_same ready (λ kid. rw (same kid).finish_same (balanced.ahead_taken kid))
        (λ kid. rw ((same kid).start_same, top.head_same.length_same) (balanced.started kid))

    pub still_even : Still tree a b p → Even tree big a p → Even tree big b p
    still_even still even t is_taken =
        same_taken t still.top (still.kids t) balanced
        (gather 0 others t t balanced (λ j kid apart_c other. other) (λ kid. absurd (not_root kid refl)) (λ kid. absurd (not_root kid refl))
        (same_behind tree.rows (weight tree p) (spare tree p) (big p) (mode tree a p t) (mode tree b p t) (virtual a p)
        (λ j inside. mode_same tree a b p t t j inside (λ kid. (refl, still.kids j kid))) balanced.behind))
      where
        others : Others tree a b p 0
        others j kid other = still.kids j kid

        balanced : Balanced tree big a p t
        balanced = even t (was_taken tree a b p t still is_taken)

    -- p takes its child k
    module _ (k : ℕ) (pick : Pick tree a b p k) where
      -- it was in time, so that its finish is ahead by what the others have of its packet's pace
      pick_ahead : Ahead tree big b p k (finish b k)
      unfolding Ahead
      pick_ahead =
          let w = share tree k in
          let l = head_length b k in
          let kid = pick.kid in
          let allows = sound.share_allowed k kid.positive kid.inside in
          let fits = share_whole w allows in
          let costs = charge_rounded w l allows in
          let ends = mul-add w (start b k) (charge l w) in
          let passed = mul-add w pick.raised (ticks * l) in
          let own = mul_left_comm w ticks l in
          let parts = share_rest w l fits in
          let bounded = mul-le-mul_left (whole - w) (small k kid.inside) in
          let began = mul-le-mul_left w pick.in_time in
          rw (after.tagged k kid.positive kid.inside pick.waiting, pick.passes) (omega arith)

      pick_level : Level tree big p (mode tree b p 0) (virtual a p) → Level tree big p (mode tree b p k) (virtual b p)
      pick_level level =
          rw pick.passes
          (pick_behind tree.rows (weight tree p) (spare tree p) (big p) (mode tree b p 0) (mode tree b p k) (virtual a p) pick.raised k (start b k)
          (finish b k) (head_length b k) kid.inside others (shares_whole tree sound p inner) free ordered
          (mode_waits tree b p 0 k kid (not_root kid) pick.waiting) (mode_taken tree b p k k kid refl) pick.in_time least pick.rises
          (further pick.no_further) covers fits level)
        where
          kid : Kid tree p k
          kid = pick.kid

          fits : head_length b k ≤ big p
          fits =
              let own = small k kid.inside in
              let up : big k ≤ big p = rw kid.under at (wider k kid.positive kid.inside) in
              omega arith

          waiting : (j s f : ℕ) → j < tree.rows → mode tree b p 0 j ≡ waits s f → Waiting tree b p 0 j s f
          waiting j s f inside is = mode_says tree b p 0 j inside (waits s f) is

          others : Apart tree.rows k (mode tree b p 0) (mode tree b p k)
          others j inside other =
              mode_same tree b b p 0 k j inside (λ kid_j. (ne_eqb j k other ∙ sym (ne_eqb j 0 (not_root kid_j)), (same_row b j).kid))

          free : (j g : ℕ) → j < tree.rows → mode tree b p 0 j ≢ taken g
          free j g inside is =
              let says = mode_says tree b p 0 j inside (taken g) is in
              not_root says.0 says.1

          ordered : (j s f : ℕ) → j < tree.rows → mode tree b p 0 j ≡ waits s f → s ≤ f
          ordered j s f inside is =
              let row = waiting j s f inside is in
              let tag = after.tagged j row.kid.positive inside row.has in
              omega arith

          least : (j s f : ℕ) → j < tree.rows → mode tree b p 0 j ≡ waits s f → s ≤ pick.raised → finish b k ≤ f
          least j s f inside is in_time =
              let row = waiting j s f inside is in
              rw row.ends (pick.least j row.kid row.has (omega arith))

          further :
              (pick.raised ≡ virtual a p) ⊎ ((j : ℕ) → Kid tree p j → head b j ≢ 0 → pick.raised ≤ start b j)
              → (pick.raised ≡ virtual a p) ⊎ ((j s f : ℕ) → j < tree.rows → mode tree b p 0 j ≡ waits s f → pick.raised ≤ s)
          further (inl same) = inl same
          further (inr starts) =
              inr (λ j s f inside is. let row = waiting j s f inside is in
              rw row.starts (starts j row.kid row.has))

          covers : scale * head_length b k ≤ weight tree p k * (finish b k - start b k)
          covers =
              let tag = after.tagged k kid.positive kid.inside pick.waiting in
              let cost : finish b k - start b k ≡ charge (head_length b k) (share tree k) = omega arith in
              let allows = sound.share_allowed k kid.positive kid.inside in
              rw (weight_kid tree p k kid, cost) (charge_covers (share tree k) (head_length b k) allows)

      pick_even : Ready 0 → Even tree big b p
      pick_even ready t is_taken =
          subst (λ (u : ℕ). Balanced tree big b p u) (sym (picked tree sound a b after p k pick t is_taken))
          (record {
            ahead_waiting = λ j kid other has. on j (start b j) (ready.waiting j kid (not_root kid) has);
            ahead_idle = λ j kid other idles. on j (finish b j) (ready.resting j kid (not_root kid) idles);
            ahead_taken = λ kid. pick_ahead;
            started = λ kid. omega arith;
            behind = pick_level ready.level;
          })
        where
          on : (j x : ℕ) → Ahead tree big a p j x → Ahead tree big b p j x
          on j x = ahead_keeps a b p j x (omega arith)

    -- child c gets a head
    wakes :
        (c t : ℕ) → c ≢ t → Kid tree p c → Others tree a b p c → head a c ≡ 0 → Headed tree b c (max (finish a c) (virtual a p))
        → Balanced tree big a p t → Ready t
    wakes c t other kid others none_before headed balanced =
        gather c others t t balanced (λ j kid_j apart_c other_j. other_j)
        (λ kid has. rw headed.starts (ahead_wakes a p c (finish a c) (balanced.ahead_idle c kid other none_before)))
        (λ kid idles. absurd (headed.has idles))
        (wake_behind tree.rows (weight tree p) (spare tree p) (big p) (mode tree a p t) (mode tree b p t) (virtual a p) c (finish a c) (finish b c)
        kid.inside (apart c others t t (λ j kid_j apart_c. refl)) (mode_idle tree a p t c kid other none_before)
        (mode_waits tree b p t c kid other headed.has ∙ ap (λ (s : ℕ). waits s (finish b c)) headed.starts) (omega arith) balanced.behind)

    -- where p has no head it is about to take a child
    pub arrival_ready : (k c : ℕ) → ArrivalAt tree a b k p c → head a p ≡ 0 → Even tree big a p → Ready 0
    arrival_ready k c move no_head even =
        wakes c 0 (not_root move.kid) move.kid move.others move.none_before move.headed (even 0 (none no_head refl))

    pub arrival_even : (k c : ℕ) → ArrivalAt tree a b k p c → Even tree big a p → Even tree big b p
    arrival_even k c move even t is_taken = go move.move
      where
        -- p has a head from a child u, which is not c; it is the one that b has
        joined : head a p ≢ 0 → SameTop a b p → (u : ℕ) → Kid tree p u → SameHead a p a u → Balanced tree big b p t
        joined has top u kid same =
            subst (λ (e : ℕ). Balanced tree big b p e) (sym (still_taken tree sound a b after p u has top kid same kept t is_taken))
            (same_taken u top (λ kid_u. kept) balanced
            (wakes c u (λ is. other (sym is)) move.kid move.others move.none_before move.headed balanced))
          where
            other : u ≢ c
            other is = has (sym same.packet_same ∙ rw is move.none_before)

            kept : SameKid a b u
            kept = move.others u kid other

            balanced : Balanced tree big a p u
            balanced = even u (one has kid same)

        go : Arriving tree a b p c → Balanced tree big b p t
        go (joins has top) =
            let from = before.from_child p inner has in
            joined has top from.0 from.1 from.2
        go (opens u no_head pick) = pick_even u pick (arrival_ready k c move no_head even) t is_taken

    -- child c's packet has finished: it has another or none, and p is about to take a child, if one has a head
    pub departure_ready : (k c : ℕ) → DepartureAt tree a b k p c → Even tree big a p → Ready 0
    departure_ready k c move even = go move.move
      where
        kid : Kid tree p c
        kid = move.kid

        balanced : Balanced tree big a p c
        balanced = even c (one move.head_before kid move.taken)

        others : Apart tree.rows c (mode tree a p c) (mode tree b p 0)
        others = apart c move.others c 0 (λ j kid_j other. ne_eqb j 0 (not_root kid_j) ∙ sym (ne_eqb j c other))

        renewed : Headed tree b c (finish a c) → Ready 0
        renewed headed =
            gather c move.others c 0 balanced (λ j kid_j apart_c other. apart_c)
            (λ kid has. rw headed.starts (balanced.ahead_taken kid)) (λ kid idles. absurd (headed.has idles))
            (renew_behind tree.rows (weight tree p) (spare tree p) (big p) (mode tree a p c) (mode tree b p 0) (virtual a p) c (finish a c) (finish b c)
            kid.inside others (mode_taken tree a p c c kid refl)
            (mode_waits tree b p 0 c kid (not_root kid) headed.has ∙ ap (λ (s : ℕ). waits s (finish b c)) headed.starts) (omega arith) balanced.behind)

        dropped : Dropped a b c → Ready 0
        dropped drop =
            gather c move.others c 0 balanced (λ j kid_j apart_c other. apart_c)
            (λ kid has. absurd (has drop.none)) (λ kid idles. rw drop.finish_same (balanced.ahead_taken kid))
            (drop_behind tree.rows (weight tree p) (spare tree p) (big p) (mode tree a p c) (mode tree b p 0) (virtual a p) c (finish a c)
            kid.inside others (mode_taken tree a p c c kid refl)
            (mode_idle tree b p 0 c kid (not_root kid) drop.none ∙ ap idle drop.finish_same) balanced.behind)

        go : Departing tree a b p c → Ready 0
        go (renews u headed pick) = renewed headed
        go (passes_on u drop pick) = dropped drop
        go (empties drop same no_head no_length idles) = dropped drop

    pub departure_even : (k c : ℕ) → DepartureAt tree a b k p c → Even tree big a p → Even tree big b p
    departure_even k c move even t is_taken = go move.move
      where
        ready : Ready 0
        ready = departure_ready k c move even

        go : Departing tree a b p c → Balanced tree big b p t
        go (renews u headed pick) = pick_even u pick ready t is_taken
        go (passes_on u drop pick) = pick_even u pick ready t is_taken
        go (empties drop same no_head no_length idles) =
            subst (λ (u : ℕ). Balanced tree big b p u) (sym (none_taken tree b p t no_head is_taken))
            (stays 0 same ready (λ root. absurd (not_root root refl)) (λ root. absurd (not_root root refl)))

  -- with no head anywhere and all tags zero, every level is balanced
  pub zero_even :
      (a : Rows) (p : ℕ) → Inner tree p → ((r : ℕ) → head a r ≡ 0) → ((r : ℕ) → start a r ≡ 0) → ((r : ℕ) → finish a r ≡ 0)
      → virtual a p ≡ 0 → Even tree big a p
  unfolding Ahead
  zero_even a p inner no_head no_start no_finish no_virtual t is_taken =
      record {
        ahead_waiting = λ j kid other has. absurd (has (no_head j));
        ahead_idle = λ j kid other idles. rw (no_finish j, mul-zero) (omega arith);
        ahead_taken = λ kid. absurd (not_root kid nobody);
        started = λ kid. absurd (not_root kid nobody);
        behind = rw no_virtual (zero_behind tree.rows (weight tree p) (spare tree p) (big p) (mode tree a p t) (shares_whole tree sound p inner));
      }
    where
      nobody : t ≡ 0
      nobody = none_taken tree a p t (no_head p) is_taken

  -- what is used of a level: a child with a head, between the virtual time and its finish
  pub not_behind :
      (a : Rows) (p j t : ℕ) → Inner tree p → Kid tree p j → head a j ≢ 0 → Taken tree a p t → Balanced tree big a p t
      → virtual a p ≤ finish a j + ticks * big p
  not_behind a p j t inner kid has is_taken balanced =
      due_behind tree.rows (weight tree p) (spare tree p) (big p) (mode tree a p t) (virtual a p) j (finish a j) kid.inside
      (go (ℕ_discrete j t)) balanced.behind
    where
      go : Dec (j ≡ t) → Due (mode tree a p t j) (finish a j)
      go (yes is) = rw (mode_taken tree a p t j kid is) (omega arith)
      go (no other) = rw (mode_waits tree a p t j kid other has) (omega arith)
