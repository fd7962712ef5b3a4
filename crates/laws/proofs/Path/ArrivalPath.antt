-- An arrival moves the rows on the path from its class up to the first that has a head, level by level, and nothing else.
-- Assumes nothing.
use Prim.Native.Nat.{ℕ, suc, ◌≤◌, ◌<◌, max}
use mathlib.Core.Path.{◌≡◌, refl, sym, ◌∙◌, ap, subst}
use mathlib.Core.Logic.{◌≢◌, ◌⊎◌, inl, inr}
use mathlib.Core.Bool.{Bool, true, false, cond}
use native.Mathlib.Decide.{ℕ_discrete, dec_le}
use native.Mathlib.Omega.{arith}
use Rattle.input.specs.Classes.{Tree, parent, depth}
use Rattle.rules.specs.Box.{Rows, start, finish, virtual, head, head_length, head_class, has_head}
use Rattle.rules.specs.Steps.{next_start, new_head, up, arrives}
use Rattle.rules.specs.Promise.{within}
use Rattle.rules.specs.declared.Why.TheVariants.{Arrived}
use Rattle.laws.specs.Sound.{Sound, Kid, Inner, Sender}
use Rattle.laws.specs.Moves.{Full, SameHead, Settled, SameKid, SameRow, Still, Headed, Arriving, joins, opens, ArrivalAt}
use Rattle.laws.proofs.Level.Heads.{has_true, has_false, same_row, then_same, still_rows}
use Rattle.laws.proofs.Tree.Paths.{parent_is_inner, root_inner, parent_within, child_within}
use Rattle.laws.proofs.Tree.Depths.{kid_deeper, path_higher, deeper_apart, upwards, off_apart, kid_off, sibling_off, sender_off, inner_below}
use Rattle.laws.proofs.Path.Choosing.{new_head_full, new_head_elsewhere, new_head_here}
use Rattle.laws.proofs.Path.Rising.{Chosen, nobody, somebody, Risen, rises, root_tags, pick_before, next_start_same, taken_head, taken_headed, front_headed}
use Rattle.laws.proofs.Path.Settling.{Move, rests, takes, Own, own_same, settles}

-- class k has the packet for its head
abbrev fronted : Tree → ℕ → ℕ → ℕ → Rows → Rows
fronted tree place k length a = new_head tree Arrived k (suc place) length k a

-- and then whoever above has none has chosen
abbrev carried_up : Tree → ℕ → ℕ → ℕ → Rows → Rows
carried_up tree place k length a = up (depth tree k) tree Arrived k (fronted tree place k length a)

module _ (tree : Tree) (sound : Sound tree) (a : Rows) (full : Full a) (settled : Settled tree a) where
  module _ (place k length : ℕ) (sender : Sender tree k) (some : 0 < length) where
    -- what holds where k has a head and nothing changes, and where it has none, holds
    by_head :
        (P : Rows → Type 0) → (head a k ≢ 0 → P a) → (head a k ≡ 0 → P (carried_up tree place k length a)) → P (arrives tree place k length a)
    unfolding arrives
    by_head P behind first = go (has_head a k) refl
      where
        go : (b : Bool) → has_head a k ≡ b → P (cond b a (carried_up tree place k length a))
        go true e = behind (has_true a k e)
        go false e = first (has_false a k e)

    -- ── the class had no head ──

    module _ (none : head a k ≡ 0) where
      abbrev front : Rows
      front = fronted tree place k length a

      abbrev now : Rows
      now = carried_up tree place k length a

      elsewhere : (j : ℕ) → j ≢ k → SameRow a front j
      elsewhere = new_head_elsewhere tree sound Arrived k (suc place) length k sender.inside a full

      risen : Risen tree Arrived k front now
      risen =
          rises tree sound Arrived (depth tree k) k front sender.inside refl
          (new_head_full tree sound Arrived k (suc place) length k sender.inside a full)

      by_then : (j : ℕ) → j ≢ k → SameRow front now j → SameRow a now j
      by_then j apart later = then_same a front now j (elsewhere j apart) later

      off : (j : ℕ) → within tree j k ≡ false → SameRow a now j
      off j away = by_then j (off_apart tree sound k j away) (risen.off j away)

      over : (j : ℕ) → depth tree j < risen.top → SameRow a now j
      over j less = let h = risen.from_here in by_then j (deeper_apart tree sound j k (omega arith)) (risen.over j less)

      -- the class's own row
      own_head : (head now k ≡ suc place) × (head_length now k ≡ length) × (head_class now k ≡ k) × (virtual now k ≡ virtual a k)
      own_head =
          let e = risen.here in
          let f = new_head_here tree sound Arrived k (suc place) length k sender.inside a full in
          omega arith

      -- every row that chose has a head, for its child on the path has one
      served : (r : ℕ) → r < tree.rows → within tree r k ≡ true → risen.top ≤ depth tree r → head now r ≢ 0
      served = upwards tree sound k sender.inside (λ r. risen.top ≤ depth tree r → head now r ≢ 0) (λ low. let e = own_head in omega arith) step
        where
          step :
              (p c : ℕ) → Kid tree p c → within tree c k ≡ true → (risen.top ≤ depth tree c → head now c ≢ 0)
              → risen.top ≤ depth tree p → head now p ≢ 0
          step p c kid on below low = go (risen.chose p c kid on low)
            where
              go : Chosen tree Arrived front now p → head now p ≢ 0
              go (nobody all dropped no_length v) = let deeper = kid_deeper tree sound p c kid in absurd (below (omega arith) (all c kid))
              go (somebody j chosen) = taken_head tree front now p j chosen.pick

      -- the rows that got a head: the class and those that chose
      had_none : (p c : ℕ) → Kid tree p c → within tree c k ≡ true → risen.top ≤ depth tree c → head a c ≡ 0
      had_none p c kid on low = go (ℕ_discrete c k)
        where
          go : Dec (c ≡ k) → head a c ≡ 0
          go (yes e) = ap (head a) e ∙ none
          go (no apart) =
              let below = child_within tree sound c k sender.inside on apart in
              let e = elsewhere c apart in
              let f = risen.free c below.0 below.1 below.2 low in
              omega arith

      new_headed : (p c : ℕ) → Kid tree p c → within tree c k ≡ true → risen.top ≤ depth tree c → Headed tree now c (next_start tree Arrived c a)
      new_headed p c kid on low = go (ℕ_discrete c k)
        where
          go : Dec (c ≡ k) → Headed tree now c (next_start tree Arrived c a)
          go (yes e) =
              subst (λ (i : ℕ). Headed tree now i (next_start tree Arrived i a)) (sym e)
              (front_headed tree sound Arrived k (suc place) length k sender.inside a now full (omega arith) risen.here)
          go (no apart) = by_choice (risen.chose c below.0 below.1 below.2 low)
            where
              below : (e : ℕ) × Kid tree c e × (within tree e k ≡ true)
              below = child_within tree sound c k sender.inside on apart

              by_choice : Chosen tree Arrived front now c → Headed tree now c (next_start tree Arrived c a)
              by_choice (nobody all dropped no_length v) = absurd (served c kid.inside on low dropped.none)
              by_choice (somebody j chosen) =
                  subst (λ (s : ℕ). Headed tree now c s)
                  (next_start_same tree Arrived a front c (elsewhere c apart)
                  (elsewhere (parent tree c)
                  (deeper_apart tree sound (parent tree c) k (rw kid.under (path_higher tree sound k p c sender.inside kid on)))))
                  (taken_headed tree Arrived front now c j chosen kid.positive)

      moves_to : (p c : ℕ) → Kid tree p c → within tree c k ≡ true → risen.top ≤ depth tree c → Arriving tree a now p c
      moves_to p c kid on low = go (dec_le risen.top (depth tree p))
        where
          before : SameRow a front p
          before = elsewhere p (deeper_apart tree sound p k (path_higher tree sound k p c sender.inside kid on))

          on_p : within tree p k ≡ true
          on_p = parent_within tree sound p c k sender.inside kid on

          go : Dec (risen.top ≤ depth tree p) → Arriving tree a now p c
          go (yes high) = by_choice (risen.chose p c kid on high)
            where
              by_choice : Chosen tree Arrived front now p → Arriving tree a now p c
              by_choice (nobody all dropped no_length v) =
                  absurd (served p (parent_is_inner tree sound p c kid).inside on_p high dropped.none)
              by_choice (somebody j chosen) =
                  opens j (let e = before in let f = risen.free p c kid on high in omega arith)
                  (pick_before tree a front now p j before.virtual_same chosen.pick)
          go (no lower) =
              let deeper = kid_deeper tree sound p c kid in
              let e = before in
              let f = risen.ended p c kid on (omega arith) in
              let g = over p (omega arith) in
              joins (omega arith) (omega arith)

      reaches : (p c : ℕ) → Kid tree p c → within tree c k ≡ true → risen.top ≤ depth tree c → ArrivalAt tree a now k p c
      unfolding next_start
      reaches p c kid on low =
          record {
            kid = kid;
            on_path = on;
            others = λ j kid_j apart. (off j (sibling_off tree sound k sender.inside p c j kid on kid_j apart)).kid;
            none_before = had_none p c kid on low;
            headed = subst (λ (q : ℕ). Headed tree now c (max (finish a c) (virtual a q))) kid.under (new_headed p c kid on low);
            move = moves_to p c kid on low;
          }

      alone : (j : ℕ) → Sender tree j → j ≢ k → SameRow a now j
      alone j other apart =
          off j (sender_off tree sound k sender.inside j other apart)

      quiet : ((j : ℕ) → Sender tree j → virtual now j ≡ virtual a j) × (start now 0 ≡ start a 0) × (finish now 0 ≡ finish a 0)
      quiet =
          let e = elsewhere 0 (λ same. let h = sender.positive in omega arith) in
          let f = root_tags tree sound Arrived k front now sender.positive sender.inside risen in
          (virtuals, omega arith, omega arith)
        where
          virtuals : (j : ℕ) → Sender tree j → virtual now j ≡ virtual a j
          virtuals j other = go (ℕ_discrete j k)
            where
              go : Dec (j ≡ k) → virtual now j ≡ virtual a j
              go (yes e) = subst (λ (i : ℕ). virtual now i ≡ virtual a i) (sym e) own_head.3
              go (no apart) = (alone j other apart).virtual_same

      at_level : (p : ℕ) → Inner tree p → Still tree a now p ⊎ ((c : ℕ) × ArrivalAt tree a now k p c)
      at_level p inner = go (within tree p k) refl
        where
          go : (b : Bool) → within tree p k ≡ b → Still tree a now p ⊎ ((c : ℕ) × ArrivalAt tree a now k p c)
          go false away =
              inl (still_rows tree a now p (off p away) (λ j kid. off j (kid_off tree sound k sender.inside p j kid away)))
          go true on = by_depth (dec_le risen.top (depth tree below.0))
            where
              below : (c : ℕ) × Kid tree p c × (within tree c k ≡ true)
              below = inner_below tree sound k p sender inner on

              by_depth : Dec (risen.top ≤ depth tree below.0) → Still tree a now p ⊎ ((c : ℕ) × ArrivalAt tree a now k p c)
              by_depth (yes low) = inr (below.0, reaches p below.0 below.1 below.2 low)
              by_depth (no lower) =
                  let deeper = kid_deeper tree sound p below.0 below.1 in
                  inl (still_rows tree a now p (over p (omega arith)) kids)
                where
                  kids : (j : ℕ) → Kid tree p j → SameRow a now j
                  kids j kid =
                      let deeper = kid_deeper tree sound p below.0 below.1 in
                      let deeper_j = kid_deeper tree sound p j kid in
                      over j (omega arith)

      moved : (p : ℕ) → Still tree a now p ⊎ ((c : ℕ) × ArrivalAt tree a now k p c) → Move tree a now p
      moved p (inl still) = rests still
      moved p (inr (c, at)) = by_move at.move
        where
          by_move : Arriving tree a now p c → Move tree a now p
          by_move (joins has top) = Move.joins c _ at.others at.none_before at.headed has top
          by_move (opens j idle pick) = takes c _ j at.others (inl at.headed) pick

      own : (j : ℕ) → Sender tree j → Own now j
      own j other = go (ℕ_discrete j k)
        where
          go : Dec (j ≡ k) → Own now j
          go (yes e) = subst (λ (i : ℕ). Own now i) (sym e) (let h = own_head in omega arith)
          go (no apart) = own_same tree sound a now settled j other (alone j other apart).kid.head_same

    -- ── in either case ──

    abbrev after : Rows
    after = arrives tree place k length a

    pub arrives_full : Full (arrives tree place k length a)
    arrives_full = by_head Full (λ has. full) (λ none. (risen none).full)

    pub arrives_settled : Settled tree (arrives tree place k length a)
    arrives_settled =
        by_head (Settled tree) (λ has. settled)
        (λ none. settles tree sound a (now none) settled (λ p inner. moved none p (at_level none p inner)) (own none))

    pub arrives_at :
        (p : ℕ) → Inner tree p
        → Still tree a (arrives tree place k length a) p ⊎ ((c : ℕ) × ArrivalAt tree a (arrives tree place k length a) k p c)
    arrives_at p inner =
        by_head (λ b. Still tree a b p ⊎ ((c : ℕ) × ArrivalAt tree a b k p c))
        (λ has. inl (still_rows tree a a p (same_row a p) (λ j kid. same_row a j))) (λ none. at_level none p inner)

    -- the class itself
    pub arrives_behind : head a k ≢ 0 → arrives tree place k length a ≡ a
    arrives_behind has = by_head (λ b. b ≡ a) (λ also. refl) (λ none. absurd (has none))

    pub arrives_first :
        head a k ≡ 0
        → (head (arrives tree place k length a) k ≡ suc place) × (head_length (arrives tree place k length a) k ≡ length)
        × (head_class (arrives tree place k length a) k ≡ k)
    arrives_first none =
        by_head (λ b. (head b k ≡ suc place) × (head_length b k ≡ length) × (head_class b k ≡ k)) (λ has. absurd (has none))
        (λ also. let e = own_head also in omega arith)

    -- other sending classes, and what is never written
    pub arrives_others : (j : ℕ) → Sender tree j → j ≢ k → SameKid a (arrives tree place k length a) j
    arrives_others j other apart = by_head (λ b. SameKid a b j) (λ has. (same_row a j).kid) (λ none. (alone none j other apart).kid)

    pub arrives_quiet :
        ((j : ℕ) → Sender tree j → virtual (arrives tree place k length a) j ≡ virtual a j)
        × (start (arrives tree place k length a) 0 ≡ start a 0) × (finish (arrives tree place k length a) 0 ≡ finish a 0)
    arrives_quiet =
        by_head (λ b. ((j : ℕ) → Sender tree j → virtual b j ≡ virtual a j) × (start b 0 ≡ start a 0) × (finish b 0 ≡ finish a 0))
        (λ has. (λ j other. refl, refl, refl)) quiet

    -- the packet on the line stays there
    pub arrives_line_busy : head a 0 ≢ 0 → SameHead a 0 (arrives tree place k length a) 0
    arrives_line_busy busy = go (arrives_at 0 (root_inner tree sound))
      where
        go : Still tree a after 0 ⊎ ((c : ℕ) × ArrivalAt tree a after k 0 c) → SameHead a 0 after 0
        go (inl still) = still.top.head_same
        go (inr (c, at)) = by_move at.move
          where
            by_move : Arriving tree a after 0 c → SameHead a 0 after 0
            by_move (joins has top) = top.head_same
            by_move (opens j idle pick) = absurd (busy idle)
