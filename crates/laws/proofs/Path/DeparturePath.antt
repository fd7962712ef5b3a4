-- The line's finish moves the rows on the path from the class whose packet it was, up to the root, level by level, and nothing else.
-- Assumes nothing.
use Prim.Native.Nat.{ℕ, suc, ◌≤◌, ◌<◌}
use mathlib.Core.Path.{◌≡◌, refl, sym, ◌∙◌, ap, subst}
use mathlib.Core.Logic.{◌≢◌, ◌⊎◌, inl, inr, ⊎_elim}
use mathlib.Core.Bool.{Bool, true, false, cond}
use mathlib.Core.List.{List, [], ◌∷◌}
use native.Mathlib.Decide.{ℕ_discrete, dec_le}
use native.Mathlib.Omega.{arith}
use lib.ListN.{get_or, length}
use Rattle.input.specs.Limits.{most_rows}
use Rattle.input.specs.Classes.{Tree, parent, depth}
use Rattle.rules.specs.Box.{Packet, Rows, start, finish, virtual, head, head_length, head_class}
use Rattle.rules.specs.Steps.{next_start, along, leaves, renews, goes_on}
use Rattle.rules.specs.Promise.{within}
use Rattle.rules.specs.declared.Why.TheVariants.{Finished}
use Rattle.laws.specs.Sound.{Sound, Kid, Inner, Sender}
use Rattle.laws.specs.Moves.{Full, SameHead, Settled, SameKid, SameRow, Still, Headed, Dropped, Pick, Departing, passes_on, empties, DepartureAt}
use Rattle.laws.specs.Kept.{HeadOf}
use Rattle.laws.proofs.Level.Heads.{same_row, then_same, still_rows}
use Rattle.laws.proofs.Tree.Paths.{its_parent, climb, parent_is_inner, root_within, self_within, parent_within, child_within, one_child, along_length, along_at}
use Rattle.laws.proofs.Tree.Depths.{kid_deeper, path_higher, deeper_apart, upwards, off_apart, kid_off, sibling_off, sender_off, inner_below}
use Rattle.laws.proofs.Path.Choosing.{new_head_full, new_head_elsewhere, new_head_here}
use Rattle.laws.proofs.Path.Rising.{Chosen, nobody, somebody, Risen, rises, root_tags, pick_before, taken_headed, front_headed}
use Rattle.laws.proofs.Path.Settling.{Move, rests, takes, Own, own_same, settles}

-- the rows after the line's packet has finished, where its class has these packets left
abbrev pub departed : Tree → List Packet → Rows → Rows
departed tree later a = goes_on tree (head_class a 0) later (leaves tree (head_class a 0) a)

-- the next packet, if there is one, has some bytes
abbrev pub NextFits : List Packet → Type 0
NextFits [] = Unit
NextFits (packet ∷ later) = 0 < packet.length

-- ── the class's own row ──

-- y is the state at the end, with k as renewed from x
record Renewed (tree : Tree) (k : ℕ) (later : List Packet) (x y : Rows) : Type 0 where
  front : HeadOf y k later
  tags : Headed tree y k (finish x k) ⊎ Dropped x y k
  own : Own y k
  virtual_same : virtual y k ≡ virtual x k

module _ (tree : Tree) (sound : Sound tree) (k : ℕ) (inside : k < tree.rows) (x : Rows) (full : Full x) where
  pub renews_full : (later : List Packet) → Full (renews tree k later x)
  unfolding renews
  renews_full [] = full
  renews_full (packet ∷ later) = new_head_full tree sound Finished k (suc packet.place) packet.length k inside x full

  renews_elsewhere : (later : List Packet) (j : ℕ) → j ≢ k → SameRow x (renews tree k later x) j
  unfolding renews
  renews_elsewhere [] j apart = same_row x j
  renews_elsewhere (packet ∷ later) j apart =
      new_head_elsewhere tree sound Finished k (suc packet.place) packet.length k inside x full j apart

  renewed :
      (later : List Packet) → NextFits later → head x k ≡ 0 → head_length x k ≡ 0 → (y : Rows) → SameRow (renews tree k later x) y k
      → Renewed tree k later x y
  unfolding renews HeadOf next_start
  renewed [] next none no_length y same =
      record {
        front = omega arith;
        tags = inr (omega arith);
        own = omega arith;
        virtual_same = omega arith;
      }
  renewed (packet ∷ later) next none no_length y same =
      let here = new_head_here tree sound Finished k (suc packet.place) packet.length k inside x full in
      record {
        front = (omega arith, omega arith, omega arith);
        tags =
            inl (front_headed tree sound Finished k (suc packet.place) packet.length k inside x y full (omega arith) same);
        own = omega arith;
        virtual_same = omega arith;
      }

-- ── the packet leaves ──

-- row r has lost its head, and its tags stay
pub record Cleared (a b : Rows) (r : ℕ) : Type 0 where
  pub none : head b r ≡ 0
  pub no_length : head_length b r ≡ 0
  pub start_same : start b r ≡ start a r
  pub finish_same : finish b r ≡ finish a r
  pub virtual_same : virtual b r ≡ virtual a r

module _ (tree : Tree) (sound : Sound tree) (a : Rows) (full : Full a) (k : ℕ) (inside_k : k < tree.rows) where
  pub leaves_full : Full (leaves tree k a)
  unfolding leaves
  leaves_full =
      record {
        starts_full = full.starts_full;
        finishes_full = full.finishes_full;
        virtuals_full = full.virtuals_full;
        heads_full = along_length tree sound (λ r n. 0) k a.heads ∙ full.heads_full;
        head_lengths_full = along_length tree sound (λ r n. 0) k a.head_lengths ∙ full.head_lengths_full;
        head_classes_full = along_length tree sound (λ r n. 0) k a.head_classes ∙ full.head_classes_full;
      }

  cleared_entry :
      (r : ℕ) (b : Bool) (xs : List ℕ) → r < tree.rows → length xs ≡ most_rows → within tree r k ≡ b
      → get_or (along tree (λ i n. 0) k xs) r 0 ≡ cond b 0 (get_or xs r 0)
  cleared_entry r b xs inside whole e =
      along_at tree sound (λ i n. 0) k r xs inside_k inside whole ∙ ap (λ (t : Bool). cond t 0 (get_or xs r 0)) e

  pub leaves_off : (r : ℕ) → r < tree.rows → within tree r k ≡ false → SameRow a (leaves tree k a) r
  unfolding leaves
  leaves_off r inside off =
      record {
        kid =
            record {
              start_same = refl;
              finish_same = refl;
              head_same =
                  record {
                    packet_same = cleared_entry r false a.heads inside full.heads_full off;
                    length_same = cleared_entry r false a.head_lengths inside full.head_lengths_full off;
                    class_same = cleared_entry r false a.head_classes inside full.head_classes_full off;
                  };
            };
        virtual_same = refl;
      }

  pub leaves_on : (r : ℕ) → r < tree.rows → within tree r k ≡ true → Cleared a (leaves tree k a) r
  unfolding leaves
  leaves_on r inside on =
      record {
        none = cleared_entry r true a.heads inside full.heads_full on;
        no_length = cleared_entry r true a.head_lengths inside full.head_lengths_full on;
        start_same = refl;
        finish_same = refl;
        virtual_same = refl;
      }

  -- every row has lost its head, or has it still
  pub leaves_head : (r : ℕ) → r < tree.rows → (head (leaves tree k a) r ≡ 0) ⊎ (head (leaves tree k a) r ≡ head a r)
  leaves_head r inside = go (within tree r k) refl
    where
      go : (b : Bool) → within tree r k ≡ b → (head (leaves tree k a) r ≡ 0) ⊎ (head (leaves tree k a) r ≡ head a r)
      go true on = inl (leaves_on r inside on).none
      go false off = inr (leaves_off r inside off).kid.head_same.packet_same

-- ── the line's finish ──

module _ (tree : Tree) (sound : Sound tree) (a : Rows) (full : Full a) (settled : Settled tree a) where
  module _ (busy : head a 0 ≢ 0) where
    -- the class whose packet is on the line
    abbrev class : ℕ
    class = head_class a 0

    sender : Sender tree class
    sender = settled.of_sender 0 sound.some_rows busy

    -- the line's packet is the head of every row on its path
    pub path_heads : (r : ℕ) → r < tree.rows → within tree r (head_class a 0) ≡ true → SameHead a 0 a r
    path_heads = climb tree sound (λ r. within tree r class ≡ true → SameHead a 0 a r) (λ on. omega arith) step
      where
        step :
            (r : ℕ) → 0 < r → r < tree.rows → (within tree (parent tree r) class ≡ true → SameHead a 0 a (parent tree r))
            → within tree r class ≡ true → SameHead a 0 a r
        step r positive inside above on =
            let p = parent tree r in
            let kid = its_parent tree sound r positive inside in
            let e = above (parent_within tree sound p r class sender.inside kid on) in
            let from = settled.from_child p (parent_is_inner tree sound p r kid) (omega arith) in
            let f = from.2 in
            let part = settled.of_part from.0 from.1.inside (omega arith) in
            let on_t = subst (λ (i : ℕ). within tree from.0 i ≡ true) (f.class_same ∙ e.class_same) part in
            let same = one_child tree sound p from.0 r class sender.inside from.1 kid on_t on in
            subst (λ (i : ℕ). SameHead a 0 a i) same (omega arith)

    module _ (later : List Packet) (next : NextFits later) where
      abbrev left : Rows
      left = leaves tree class a

      abbrev front : Rows
      front = renews tree class later left

      abbrev now : Rows
      now = departed tree later a

      left_full : Full left
      left_full = leaves_full tree sound a full class sender.inside

      elsewhere : (j : ℕ) → j ≢ class → SameRow left front j
      elsewhere = renews_elsewhere tree sound class sender.inside left left_full later

      risen : Risen tree Finished class front now
      unfolding goes_on
      risen =
          rises tree sound Finished (depth tree class) class front sender.inside refl
          (renews_full tree sound class sender.inside left left_full later)

      off : (j : ℕ) → j < tree.rows → within tree j class ≡ false → SameRow a now j
      off j inside away =
          then_same a front now j
          (then_same a left front j (leaves_off tree sound a full class sender.inside j inside away)
          (elsewhere j (off_apart tree sound class j away))) (risen.off j away)

      -- before they choose, the rows above the class have no head and their old tags
      waiting : (p c : ℕ) → Kid tree p c → within tree c class ≡ true → Cleared a front p
      waiting p c kid on =
          let on_p = parent_within tree sound p c class sender.inside kid on in
          let e = leaves_on tree sound a full class sender.inside p (parent_is_inner tree sound p c kid).inside on_p in
          let f = elsewhere p (deeper_apart tree sound p class (path_higher tree sound class p c sender.inside kid on)) in
          omega arith

      -- so all of them choose
      all_chose : (r : ℕ) → r < tree.rows → within tree r class ≡ true → risen.top ≤ depth tree r
      all_chose = upwards tree sound class sender.inside (λ r. risen.top ≤ depth tree r) risen.from_here step
        where
          step : (p c : ℕ) → Kid tree p c → within tree c class ≡ true → risen.top ≤ depth tree c → risen.top ≤ depth tree p
          step p c kid on low = go (dec_le risen.top (depth tree p))
            where
              go : Dec (risen.top ≤ depth tree p) → risen.top ≤ depth tree p
              go (yes high) = high
              go (no lower) =
                  let deeper = kid_deeper tree sound p c kid in
                  absurd (risen.ended p c kid on (omega arith) (waiting p c kid on).none)

      chose_at : (p c : ℕ) → Kid tree p c → within tree c class ≡ true → Chosen tree Finished front now p
      chose_at p c kid on =
          risen.chose p c kid on
          (all_chose p (parent_is_inner tree sound p c kid).inside (parent_within tree sound p c class sender.inside kid on))

      cleared : Cleared a left class
      cleared = leaves_on tree sound a full class sender.inside class sender.inside (self_within tree sound class)

      line : Cleared a left 0
      line = leaves_on tree sound a full class sender.inside 0 sound.some_rows (root_within tree sound class sender.inside)

      own_row : Renewed tree class later left now
      own_row = renewed tree sound class sender.inside left left_full later next cleared.none cleared.no_length now risen.here

      -- a row on the path has its next head, from its old finish on, or none
      moved : (p c : ℕ) → Kid tree p c → within tree c class ≡ true → Headed tree now c (finish a c) ⊎ Dropped a now c
      unfolding next_start
      moved p c kid on = go (ℕ_discrete c class)
        where
          go : Dec (c ≡ class) → Headed tree now c (finish a c) ⊎ Dropped a now c
          go (yes e) =
              subst (λ (i : ℕ). Headed tree now i (finish a i) ⊎ Dropped a now i) (sym e)
              (⊎_elim (λ headed. inl (subst (λ (s : ℕ). Headed tree now class s) cleared.finish_same headed))
              (λ dropped. inr (let e = cleared in omega arith)) own_row.tags)
          go (no apart) = by_choice (chose_at c below.0 below.1 below.2)
            where
              below : (e : ℕ) × Kid tree c e × (within tree e class ≡ true)
              below = child_within tree sound c class sender.inside on apart

              by_choice : Chosen tree Finished front now c → Headed tree now c (finish a c) ⊎ Dropped a now c
              by_choice (nobody all dropped no_length v) = inr (let e = waiting c below.0 below.1 below.2 in omega arith)
              by_choice (somebody j chosen) =
                  inl
                  (subst (λ (s : ℕ). Headed tree now c s) (waiting c below.0 below.1 below.2).finish_same
                  (taken_headed tree Finished front now c j chosen kid.positive))

      moves_to : (p c : ℕ) → Kid tree p c → within tree c class ≡ true → Departing tree a now p c
      moves_to p c kid on = go (chose_at p c kid on) (moved p c kid on)
        where
          before : Cleared a front p
          before = waiting p c kid on

          go : Chosen tree Finished front now p → Headed tree now c (finish a c) ⊎ Dropped a now c → Departing tree a now p c
          go (nobody all dropped no_length v) (inl headed) = absurd (headed.has (all c kid))
          go (nobody all dropped no_length v) (inr lost) = empties lost (let e = before in omega arith) dropped.none no_length all
          go (somebody j chosen) child = by_child child
            where
              pick : Pick tree a now p j
              pick = pick_before tree a front now p j before.virtual_same chosen.pick

              by_child : Headed tree now c (finish a c) ⊎ Dropped a now c → Departing tree a now p c
              by_child (inl headed) = Departing.renews j headed pick
              by_child (inr lost) = passes_on j lost pick

      pub departs_full : Full (departed tree later a)
      departs_full = risen.full

      pub departs_on :
          (p : ℕ) → Inner tree p → within tree p (head_class a 0) ≡ true
          → (c : ℕ) × DepartureAt tree a (departed tree later a) (head_class a 0) p c
      departs_on p inner on =
          let below = inner_below tree sound class p sender inner on in
          let c = below.0 in
          let kid = below.1 in
          let e = path_heads p inner.inside on in
          let f = path_heads c kid.inside below.2 in (
            c,
            record {
              kid = kid;
              on_path = below.2;
              others = λ j kid_j apart. (off j kid_j.inside (sibling_off tree sound class sender.inside p c j kid below.2 kid_j apart)).kid;
              head_before = omega arith;
              taken = omega arith;
              move = moves_to p c kid below.2;
            },
          )

      pub departs_off : (p : ℕ) → Inner tree p → within tree p (head_class a 0) ≡ false → Still tree a (departed tree later a) p
      departs_off p inner away =
          still_rows tree a now p (off p inner.inside away)
          (λ j kid. off j kid.inside (kid_off tree sound class sender.inside p j kid away))

      pub departs_class : HeadOf (departed tree later a) (head_class a 0) later
      departs_class = own_row.front

      alone : (j : ℕ) → Sender tree j → j ≢ class → SameRow a now j
      alone j other apart = off j other.inside (sender_off tree sound class sender.inside j other apart)

      pub departs_others : (j : ℕ) → Sender tree j → j ≢ head_class a 0 → SameKid a (departed tree later a) j
      departs_others j other apart = (alone j other apart).kid

      pub departs_settled : Settled tree (departed tree later a)
      departs_settled = settles tree sound a now settled move own
        where
          move : (p : ℕ) → Inner tree p → Move tree a now p
          move p inner = go (within tree p class) refl
            where
              go : (b : Bool) → within tree p class ≡ b → Move tree a now p
              go false away = rests (departs_off p inner away)
              go true on = by_move at.1.move
                where
                  at : (c : ℕ) × DepartureAt tree a now class p c
                  at = departs_on p inner on

                  by_move : Departing tree a now p at.0 → Move tree a now p
                  by_move (Departing.renews k headed pick) = takes at.0 _ k at.1.others (inl headed) pick
                  by_move (passes_on k dropped pick) = takes at.0 0 k at.1.others (inr dropped) pick
                  by_move (empties dropped v no_head no_length all) = Move.empties at.0 at.1.others dropped no_head no_length all

          own : (j : ℕ) → Sender tree j → Own now j
          own j other = go (ℕ_discrete j class)
            where
              go : Dec (j ≡ class) → Own now j
              go (yes e) = subst (λ (i : ℕ). Own now i) (sym e) own_row.own
              go (no apart) = own_same tree sound a now settled j other (alone j other apart).kid.head_same

      pub departs_quiet :
          ((j : ℕ) → Sender tree j → virtual (departed tree later a) j ≡ virtual a j)
          × (start (departed tree later a) 0 ≡ start a 0) × (finish (departed tree later a) 0 ≡ finish a 0)
      departs_quiet =
          let e = line in
          let f = elsewhere 0 (λ same. let h = sender.positive in omega arith) in
          let g = root_tags tree sound Finished class front now sender.positive sender.inside risen in
          (virtuals, omega arith, omega arith)
        where
          virtuals : (j : ℕ) → Sender tree j → virtual now j ≡ virtual a j
          virtuals j other = go (ℕ_discrete j class)
            where
              go : Dec (j ≡ class) → virtual now j ≡ virtual a j
              go (yes e) = subst (λ (i : ℕ). virtual now i ≡ virtual a i) (sym e) (own_row.virtual_same ∙ cleared.virtual_same)
              go (no apart) = (alone j other apart).virtual_same

      -- the line is idle once the packet has left
      pub leaves_idle : head (leaves tree (head_class a 0) a) 0 ≡ 0
      leaves_idle = line.none
