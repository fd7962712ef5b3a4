-- Choosing from a row upwards: which rows choose, what each then has, and that no other row changes; for any depth.
-- Assumes nothing.
use Prim.Native.Nat.{ℕ, zero, suc, ◌≤◌, ◌<◌}
use mathlib.Core.Path.{◌≡◌, refl, sym, ◌∙◌, ap, subst}
use mathlib.Core.Logic.{◌≢◌, ◌⊎◌, inl, inr, ⊎_elim}
use mathlib.Core.Bool.{Bool, true, false, cond, false≢true}
use native.Mathlib.Decide.{dec_le}
use native.Mathlib.Omega.{arith}
use Rattle.input.specs.Classes.{Tree, parent, depth}
use Rattle.rules.specs.Box.{Rows, start, finish, virtual, head, head_length, has_head}
use Rattle.rules.specs.Steps.{next_start, new_head, chooses, up}
use Rattle.rules.specs.Promise.{within}
use Rattle.rules.specs.declared.Why.{Why}
use Rattle.rules.specs.declared.Why.TheVariants.{Finished, Arrived}
use Rattle.laws.specs.Sound.{Sound, Kid, Inner}
use Rattle.laws.specs.Moves.{Full, SameRow, Headed, Dropped, Pick}
use Rattle.laws.proofs.Level.Heads.{has_true, has_false, same_row, then_same}
use Rattle.laws.proofs.Tree.Paths.{kid_apart, parent_is_inner, root_within, nearer, self_within, parent_within, child_within, not_below}
use Rattle.laws.proofs.Tree.Depths.{kid_deeper, lower_kid, off_at_parent, path_depth, path_higher, deeper_apart}
use Rattle.laws.proofs.Path.Choosing.{Nobody, Somebody, new_head_here, chooses_full, chooses_elsewhere, chooses_what}

-- row p has chosen. `x` is the state before any row chose, `y` the state after all did; p's children are those of `y`
pub data Chosen (tree : Tree) (why : Why) (x y : Rows) (p : ℕ) : Type 0 where
  nobody :
      ((j : ℕ) → Kid tree p j → head y j ≡ 0) → Dropped x y p → head_length y p ≡ 0 → virtual y p ≡ virtual x p
      → Chosen tree why x y p
  somebody : (k : ℕ) → Somebody tree why x y p k → Chosen tree why x y p

-- the rows on the path from r that are less deep than r, and as deep as `top` or deeper, chose; no other row changed
pub record Risen (tree : Tree) (why : Why) (r : ℕ) (x y : Rows) : Type 0 where
  pub full : Full y
  pub top : ℕ
  pub from_here : top ≤ depth tree r
  pub here : SameRow x y r
  pub off : (j : ℕ) → within tree j r ≡ false → SameRow x y j
  pub over : (j : ℕ) → depth tree j < top → SameRow x y j
  -- they had no head
  pub free : (p c : ℕ) → Kid tree p c → within tree c r ≡ true → top ≤ depth tree p → head x p ≡ 0
  pub chose : (p c : ℕ) → Kid tree p c → within tree c r ≡ true → top ≤ depth tree p → Chosen tree why x y p
  -- and where it ended short of the root, there was one
  pub ended : (p c : ℕ) → Kid tree p c → within tree c r ≡ true → suc (depth tree p) ≡ top → head x p ≢ 0

-- p's taking, where nothing of p's level has changed since
pick_since :
    (tree : Tree) (x x' z y : Rows) (p k : ℕ) → virtual x p ≡ virtual x' p → ((j : ℕ) → Kid tree p j → SameRow z y j) → SameRow z y p
    → Pick tree x' z p k → Pick tree x y p k
pick_since tree x x' z y p k v kids self pick =
    let here = kids k pick.kid in
    record {
      kid = pick.kid;
      waiting = omega (arith, pick.waiting);
      raised = pick.raised;
      rises = omega (arith, pick.rises);
      no_further =
          ⊎_elim (λ e. inl (e ∙ sym v))
          (λ f. inr (λ j kid has. let s = kids j kid in let g = f j kid (omega arith) in omega arith)) pick.no_further;
      in_time = omega (arith, pick.in_time);
      least = λ j kid has soon. let s = kids j kid in let g = pick.least j kid (omega arith) (omega arith) in omega arith;
      passes = omega (arith, pick.passes);
      takes = omega (arith, pick.takes);
    }

-- p's taking, as it is seen from before the rows below chose
pub pick_before : (tree : Tree) (x x' y : Rows) (p k : ℕ) → virtual x' p ≡ virtual x p → Pick tree x' y p k → Pick tree x y p k
pick_before tree x x' y p k v pick = pick_since tree x x' y y p k (sym v) (λ j kid. same_row y j) (same_row y p) pick

-- a choice as it is seen after all rows have chosen
seen_later :
    (tree : Tree) (why : Why) (x z y : Rows) (p : ℕ) → ((j : ℕ) → Kid tree p j → SameRow x z j)
    → ((j : ℕ) → Kid tree p j → SameRow z y j) → SameRow z y p
    → Nobody tree x z p ⊎ ((k : ℕ) × Somebody tree why x z p k) → Chosen tree why x y p
seen_later tree why x z y p before kids self (inl none) =
    nobody (λ j kid. let e = before j kid in let f = kids j kid in let g = none.none j kid in omega arith)
    (record { none = omega arith; start_same = omega arith; finish_same = omega arith }) (omega arith) (omega arith)
seen_later tree why x z y p before kids self (inr (k, some)) =
    somebody k
    (record {
      pick = pick_since tree x x z y p k refl kids self some.pick;
      charged =
          λ positive.
          let c = some.charged positive in
          (self.kid.start_same ∙ c.0, rw (self.kid.start_same, self.kid.finish_same, self.kid.head_same.length_same) c.1);
      root = λ e. let c = some.root e in (omega arith, omega arith);
    })

pub next_start_same :
    (tree : Tree) (why : Why) (x x' : Rows) (p : ℕ) → SameRow x x' p → SameRow x x' (parent tree p)
    → next_start tree why p x' ≡ next_start tree why p x
unfolding next_start
next_start_same tree Finished x x' p self above = self.kid.finish_same
next_start_same tree Arrived x x' p self above = omega arith

-- a row that took a child has its head
pub taken_head : (tree : Tree) (x y : Rows) (p k : ℕ) → Pick tree x y p k → head y p ≢ 0
taken_head tree x y p k pick = let e = pick.takes in let f = pick.waiting in omega arith

pub taken_headed :
    (tree : Tree) (why : Why) (x y : Rows) (p k : ℕ) → Somebody tree why x y p k → 0 < p → Headed tree y p (next_start tree why p x)
taken_headed tree why x y p k some positive =
    let c = some.charged positive in
    record { has = taken_head tree x y p k some.pick; starts = c.0; ends = rw (← c.0) c.1 }

-- a choice as it is seen from before the rows below chose
seen_earlier :
    (tree : Tree) (why : Why) (x x' y : Rows) (p : ℕ) → SameRow x x' p → (0 < p → SameRow x x' (parent tree p))
    → Chosen tree why x' y p → Chosen tree why x y p
seen_earlier tree why x x' y p self above (nobody none dropped no_length v) =
    nobody none (record { none = dropped.none; start_same = omega arith; finish_same = omega arith }) no_length (omega arith)
seen_earlier tree why x x' y p self above (somebody k some) =
    somebody k
    (record {
      pick = pick_before tree x x' y p k self.virtual_same some.pick;
      charged =
          λ positive.
          let c = some.charged positive in
          (c.0 ∙ next_start_same tree why x x' p self (above positive), c.1);
      root = λ e. let c = some.root e in (omega arith, omega arith);
    })

module _ (tree : Tree) (sound : Sound tree) (why : Why) where
  -- the parent q of r has a head: nothing happens
  stays : (r q : ℕ) (x : Rows) → Full x → Kid tree q r → head x q ≢ 0 → Risen tree why r x x
  stays r q x full kid_r has =
      record {
        full = full;
        top = depth tree r;
        from_here = omega arith;
        here = same_row x r;
        off = λ j off. same_row x j;
        over = λ j less. same_row x j;
        free = λ p c kid on low. let h = path_higher tree sound r p c kid_r.inside kid on in absurd (omega arith);
        chose = λ p c kid on low. let h = path_higher tree sound r p c kid_r.inside kid on in absurd (omega arith);
        ended = ended;
      }
    where
      ended : (p c : ℕ) → Kid tree p c → within tree c r ≡ true → suc (depth tree p) ≡ depth tree r → head x p ≢ 0
      ended p c kid on e =
          let deeper = kid_deeper tree sound p c kid in
          ⊎_elim (λ same. subst (λ (i : ℕ). head x i ≢ 0) (sym kid_r.under ∙ ap (parent tree) (sym same) ∙ kid.under) has)
          (λ less. absurd (omega arith)) (path_depth tree sound r c kid_r.inside on)

  -- the parent q of r has none: it chooses, and what is above it goes on from there
  goes_up :
      (r q : ℕ) (x y : Rows) → Full x → Kid tree q r → head x q ≡ 0 → Risen tree why q (chooses tree why q x) y → Risen tree why r x y
  goes_up r q x y full kid_r none risen =
      record {
        full = risen.full;
        top = risen.top;
        from_here = let deeper = kid_deeper tree sound q r kid_r in let h = risen.from_here in omega arith;
        here = by_then r (kid_apart tree sound q r kid_r) (risen.off r (not_below tree sound q r kid_r));
        off =
            λ j off.
            by_then j (λ e. false≢true (sym off ∙ subst (λ (i : ℕ). within tree i r ≡ true) (sym e) path_q))
            (risen.off j (off_at_parent tree sound q r j kid_r off));
        over =
            λ j less.
            let h = risen.from_here in
            by_then j (deeper_apart tree sound j q (omega arith)) (risen.over j less);
        free =
            λ p c kid on low.
            ⊎_elim (λ e. ap (head x) e ∙ none)
            (λ above. let e = before p above.1 in let f = risen.free p c kid above.0 low in omega arith) (which p c kid on);
        chose =
            λ p c kid on low.
            ⊎_elim (λ e. subst (λ (i : ℕ). Chosen tree why x y i) (sym e) chose_q)
            (λ above.
            seen_earlier tree why x (chooses tree why q x) y p (before p above.1)
            (before_parent p (parent_is_inner tree sound p c kid).inside above.1) (risen.chose p c kid above.0 low))
            (which p c kid on);
        ended =
            λ p c kid on e.
            ⊎_elim (λ same. let f = ap (depth tree) same in let h = risen.from_here in absurd (omega arith))
            (λ above. let f = before p above.1 in let g = risen.ended p c kid above.0 e in omega arith) (which p c kid on);
      }
    where
      inner : Inner tree q
      inner = parent_is_inner tree sound q r kid_r

      by_then : (j : ℕ) → j ≢ q → SameRow (chooses tree why q x) y j → SameRow x y j
      by_then j apart later = then_same x (chooses tree why q x) y j (chooses_elsewhere tree sound why q inner x full j apart) later

      path_q : within tree q r ≡ true
      path_q = parent_within tree sound q r r kid_r.inside kid_r (self_within tree sound r)

      before : (j : ℕ) → depth tree j < depth tree q → SameRow x (chooses tree why q x) j
      before j less = chooses_elsewhere tree sound why q inner x full j (deeper_apart tree sound j q less)

      before_parent : (p : ℕ) → p < tree.rows → depth tree p < depth tree q → 0 < p → SameRow x (chooses tree why q x) (parent tree p)
      before_parent p inside less positive = let deeper = sound.deeper p positive inside in before (parent tree p) (omega arith)

      -- a parent on the path from r is q, or one on the path from q
      which : (p c : ℕ) → Kid tree p c → within tree c r ≡ true → (p ≡ q) ⊎ ((within tree c q ≡ true) × (depth tree p < depth tree q))
      which p c kid on =
          ⊎_elim (λ here. inl (sym kid.under ∙ ap (parent tree) (sym here) ∙ kid_r.under))
          (λ above. let on_q = rw kid_r.under at above in inr (on_q, path_higher tree sound q p c inner.inside kid on_q))
          (nearer tree sound c r kid_r.positive kid_r.inside on)

      chose_q : Chosen tree why x y q
      chose_q =
          seen_later tree why x (chooses tree why q x) y q
          (λ j kid. chooses_elsewhere tree sound why q inner x full j (kid_apart tree sound q j kid))
          (λ j kid. risen.off j (not_below tree sound q j kid)) risen.here (chooses_what tree sound why q inner x full)

  pub rises : (d r : ℕ) (x : Rows) → r < tree.rows → depth tree r ≡ d → Full x → Risen tree why r x (up d tree why r x)
  unfolding up
  rises zero r x inside deep full =
      record {
        full = full;
        top = 0;
        from_here = omega arith;
        here = same_row x r;
        off = λ j off. same_row x j;
        over = λ j less. same_row x j;
        free = λ p c kid on low. let h = path_higher tree sound r p c inside kid on in absurd (omega arith);
        chose = λ p c kid on low. let h = path_higher tree sound r p c inside kid on in absurd (omega arith);
        ended = λ p c kid on e. absurd (omega arith);
      }
  rises (suc d) r x inside deep full =
      go (has_head x (parent tree r)) refl
      (rises d (parent tree r) (chooses tree why (parent tree r) x) inner.inside
      (let h = kid_deeper tree sound (parent tree r) r kid in omega arith) (chooses_full tree sound why (parent tree r) inner x full))
    where
      kid : Kid tree (parent tree r) r
      kid = lower_kid tree sound d r inside deep

      inner : Inner tree (parent tree r)
      inner = parent_is_inner tree sound (parent tree r) r kid

      go :
          (b : Bool) → has_head x (parent tree r) ≡ b
          → Risen tree why (parent tree r) (chooses tree why (parent tree r) x) (up d tree why (parent tree r) (chooses tree why (parent tree r) x))
          → Risen tree why r x (cond b x (up d tree why (parent tree r) (chooses tree why (parent tree r) x)))
      go true e risen = stays r (parent tree r) x full kid (has_true x (parent tree r) e)
      go false e risen = goes_up r (parent tree r) x _ full kid (has_false x (parent tree r) e) risen

  -- the root is charged nothing
  pub root_tags :
      (r : ℕ) (x y : Rows) → 0 < r → r < tree.rows → Risen tree why r x y → (start y 0 ≡ start x 0) × (finish y 0 ≡ finish x 0)
  root_tags r x y positive inside risen = go (dec_le risen.top (depth tree 0))
    where
      by_choice : Chosen tree why x y 0 → (start y 0 ≡ start x 0) × (finish y 0 ≡ finish x 0)
      by_choice (nobody all dropped no_length v) = (dropped.start_same, dropped.finish_same)
      by_choice (somebody k some) = some.root refl

      go : Dec (risen.top ≤ depth tree 0) → (start y 0 ≡ start x 0) × (finish y 0 ≡ finish x 0)
      go (yes low) =
          let below = child_within tree sound 0 r inside (root_within tree sound r inside) (λ e. omega arith) in
          by_choice (risen.chose 0 below.0 below.1 below.2 low)
      go (no lower) = let e = risen.over 0 (omega arith) in omega arith

  -- a row that got a head before the rows above it chose
  pub front_headed :
      (r packet length class : ℕ) (inside : r < tree.rows) (x y : Rows) → Full x → packet ≢ 0
      → SameRow (new_head tree why r packet length class x) y r → Headed tree y r (next_start tree why r x)
  front_headed r packet length class inside x y full some same =
      let here = new_head_here tree sound why r packet length class inside x full in
      record {
        has = omega arith;
        starts = omega arith;
        ends = rw (same.kid.finish_same, same.kid.head_same.length_same, here.1) here.4;
      }
