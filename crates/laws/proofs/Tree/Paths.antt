-- The path from a row up to the root: which rows are on it, and what changing a list along it does.
-- Assumes nothing.
use Prim.Native.Nat.{ℕ, zero, suc, ◌≤◌, ◌<◌}
use mathlib.Core.Path.{◌≡◌, refl, sym, ◌∙◌, ap, subst}
use mathlib.Core.Logic.{◌≢◌, ◌⊎◌, inl, inr, ⊎_elim}
use mathlib.Core.Bool.{Bool, true, false, cond, not, ◌||◌, true≢false, and-eq-true_iff, and-false, or-true}
use mathlib.Mathlib.Data.Bool.Basic.{eq-false_of_not-eq-true as refuted}
use mathlib.Core.List.{List}
use native.Mathlib.Decide.{ℕ_discrete}
use native.Mathlib.Omega.{arith}
use lib.Dec.{eqb, ltb}
use lib.ListN.{length, get_or, set, length-set}
use lib.Seq.{get_or-set_same, get_or-set_other}
use borrow.Author.Tests.{ltb-true, lt-ltb, eqb-true, eq-eqb, ne_eqb}
use Rattle.input.specs.Limits.{most_rows}
use Rattle.input.specs.Classes.{Tree, parent, depth, child, has_child, sends}
use Rattle.rules.specs.Steps.{along, on_path}
use Rattle.rules.specs.Promise.{within, path_has}
use Rattle.laws.specs.Sound.{Sound, Kid, Inner, Sender}

-- which of two tests holds
either : (a b : Bool) → a || b ≡ true → (a ≡ true) ⊎ (b ≡ true)
either true b e = inl refl
either false b e = inr e

-- ── children ──

-- a child, as the rules test it and as the theorems have it
pub kid_child : (tree : Tree) (p j : ℕ) → Kid tree p j → child tree p j ≡ true
unfolding child
kid_child tree p j kid = rw (lt-ltb 0 j kid.positive, eq-eqb (parent tree j) p kid.under)

pub child_kid : (tree : Tree) (p j : ℕ) → j < tree.rows → child tree p j ≡ true → Kid tree p j
unfolding child
child_kid tree p j inside is =
    let both = (and-eq-true_iff (ltb 0 j) (eqb (parent tree j) p)).0 is in
    record { positive = ltb-true 0 j both.0; inside = inside; under = eqb-true (parent tree j) p both.1 }

-- a child below n is found
pub has_kid : (tree : Tree) (p j n : ℕ) → j < n → child tree p j ≡ true → has_child tree p n ≡ true
unfolding has_child
has_kid tree p j zero below is = absurd (omega arith)
has_kid tree p j (suc n) below is = go (ℕ_discrete j n) (has_kid tree p j n)
  where
    go : Dec (j ≡ n) → (j < n → child tree p j ≡ true → has_child tree p n ≡ true) → has_child tree p n || child tree p n ≡ true
    go (yes e) earlier = rw (← e, is) (or-true (has_child tree p j))
    go (no other) earlier = rw (earlier (omega arith) is)

-- a row that passes the test for a sending class is one: it is not the root
pub sends_sender : (tree : Tree) (k : ℕ) → k < tree.rows → sends tree k ≡ true → Sender tree k
unfolding sends
sends_sender tree k inside is =
    let both = (and-eq-true_iff (ltb 0 k) (not (has_child tree k tree.rows))).0 is in
    record { positive = ltb-true 0 k both.0; inside = inside; sender = is }

-- a row with a child is no sending class
parent_inner : (tree : Tree) (p j : ℕ) → Kid tree p j → sends tree p ≡ false
unfolding sends
parent_inner tree p j kid = rw (has_kid tree p j tree.rows kid.inside (kid_child tree p j kid)) (and-false (ltb 0 p))

module _ (tree : Tree) (sound : Sound tree) where
  -- ── rows and their parents ──

  -- a child's row is not its parent's
  pub kid_apart : (p j : ℕ) → Kid tree p j → j ≢ p
  kid_apart p j kid same =
      let deeper = sound.deeper j kid.positive kid.inside in
      let level : depth tree (parent tree j) ≡ depth tree j = ap (depth tree) (kid.under ∙ sym same) in
      omega arith

  -- a row with a child is inner
  pub parent_is_inner : (p j : ℕ) → Kid tree p j → Inner tree p
  parent_is_inner p j kid =
      record {
        inside = rw kid.under at (sound.parent_row j kid.positive kid.inside);
        no_sender = parent_inner tree p j kid;
      }

  pub root_inner : Inner tree 0
  unfolding sends
  root_inner = record { inside = sound.some_rows; no_sender = refl }

  -- every row but the root is its parent's child
  pub its_parent : (x : ℕ) → 0 < x → x < tree.rows → Kid tree (parent tree x) x
  its_parent x positive inside = record { positive = positive; inside = inside; under = refl }

  -- the root alone has depth 0
  pub at_root : (x : ℕ) → x < tree.rows → depth tree x ≡ 0 → x ≡ 0
  at_root zero inside level = refl
  at_root (suc x) inside level = let deeper = sound.deeper (suc x) (omega arith) inside in absurd (omega arith)

  pub below_root : (x d : ℕ) → depth tree x ≡ suc d → 0 < x
  below_root zero d level = let root = sound.root_depth in absurd (omega arith)
  below_root (suc x) d level = omega arith

  -- what holds of the root, and of a row if of its parent, holds of every row: the path ends because the depth falls
  climb_from :
      (P : ℕ → Type 0) → P 0 → ((x : ℕ) → 0 < x → x < tree.rows → P (parent tree x) → P x)
      → (d x : ℕ) → x < tree.rows → depth tree x ≡ d → P x
  climb_from P root next zero x inside level = subst P (sym (at_root x inside level)) root
  climb_from P root next (suc d) x inside level =
      let positive = below_root x d level in
      let deeper = sound.deeper x positive inside in
      next x positive inside (climb_from P root next d (parent tree x) (sound.parent_row x positive inside) (omega arith))

  pub climb : (P : ℕ → Type 0) → P 0 → ((x : ℕ) → 0 < x → x < tree.rows → P (parent tree x) → P x) → (x : ℕ) → x < tree.rows → P x
  climb P root next x inside = climb_from P root next (depth tree x) x inside refl

  -- ── rows on a path ──

  -- what is on the path, from the root and from any other row
  within_root : (r : ℕ) → within tree r 0 ≡ eqb 0 r
  unfolding within path_has
  within_root r = rw sound.root_depth

  within_next : (r x : ℕ) → 0 < x → x < tree.rows → within tree r x ≡ (eqb x r || within tree r (parent tree x))
  unfolding within path_has
  within_next r x positive inside = rw (sound.deeper x positive inside)

  pub self_within : (k : ℕ) → within tree k k ≡ true
  unfolding within path_has
  self_within k = starts (depth tree k)
    where
      starts : (d : ℕ) → path_has d tree k k ≡ true
      starts zero = eq-eqb k k refl
      starts (suc d) = rw (eq-eqb k k refl)

  -- the same for a row that is on it
  pub further : (r x : ℕ) → 0 < x → x < tree.rows → within tree r (parent tree x) ≡ true → within tree r x ≡ true
  further r x positive inside on = rw (within_next r x positive inside, on) (or-true (eqb x r))

  pub nearer : (r x : ℕ) → 0 < x → x < tree.rows → within tree r x ≡ true → (x ≡ r) ⊎ (within tree r (parent tree x) ≡ true)
  nearer r x positive inside on =
      ⊎_elim (λ here. inl (eqb-true x r here)) (λ above. inr above)
      (either (eqb x r) (within tree r (parent tree x)) (sym (within_next r x positive inside) ∙ on))

  pub only_root : (r : ℕ) → within tree r 0 ≡ true → r ≡ 0
  only_root r on = sym (eqb-true 0 r (sym (within_root r) ∙ on))

  -- a row on the path is no deeper
  pub no_deeper : (r x : ℕ) → x < tree.rows → within tree r x ≡ true → depth tree r ≤ depth tree x
  no_deeper r = climb (λ x. within tree r x ≡ true → depth tree r ≤ depth tree x) root next
    where
      root : within tree r 0 ≡ true → depth tree r ≤ depth tree 0
      root on = rw (only_root r on) (omega arith)

      next :
          (x : ℕ) → 0 < x → x < tree.rows → (within tree r (parent tree x) ≡ true → depth tree r ≤ depth tree (parent tree x))
          → within tree r x ≡ true → depth tree r ≤ depth tree x
      next x positive inside above on =
          let deeper = sound.deeper x positive inside in
          ⊎_elim (λ here. rw here (omega arith)) (λ more. let shallower = above more in omega arith) (nearer r x positive inside on)

  pub root_within : (k : ℕ) → k < tree.rows → within tree 0 k ≡ true
  root_within = climb (λ k. within tree 0 k ≡ true) (self_within 0) (λ x positive inside above. further 0 x positive inside above)

  -- no row is in the part of its own child
  pub not_below : (p c : ℕ) → Kid tree p c → within tree c p ≡ false
  not_below p c kid = refuted λ on.
      let deeper = sound.deeper c kid.positive kid.inside in
      let level = ap (depth tree) kid.under in
      let shallower = no_deeper c p (parent_is_inner p c kid).inside on in
      omega arith

  pub parent_within : (p c x : ℕ) → x < tree.rows → Kid tree p c → within tree c x ≡ true → within tree p x ≡ true
  parent_within p c x inside kid = climb (λ x. within tree c x ≡ true → within tree p x ≡ true) root next x inside
    where
      root : within tree c 0 ≡ true → within tree p 0 ≡ true
      root on = let zeroth = only_root c on in let positive = kid.positive in absurd (omega arith)

      next :
          (x : ℕ) → 0 < x → x < tree.rows → (within tree c (parent tree x) ≡ true → within tree p (parent tree x) ≡ true)
          → within tree c x ≡ true → within tree p x ≡ true
      next x positive inside above on =
          further p x positive inside
          (⊎_elim (λ (here : x ≡ c). rw (ap (parent tree) here ∙ kid.under) (self_within p)) above (nearer c x positive inside on))

  -- below p, on the path to x, stands one child of p
  pub child_within : (p x : ℕ) → x < tree.rows → within tree p x ≡ true → p ≢ x → (c : ℕ) × Kid tree p c × (within tree c x ≡ true)
  child_within p = climb (λ x. within tree p x ≡ true → p ≢ x → (c : ℕ) × Kid tree p c × (within tree c x ≡ true)) root next
    where
      root : within tree p 0 ≡ true → p ≢ 0 → (c : ℕ) × Kid tree p c × (within tree c 0 ≡ true)
      root on other = absurd (other (only_root p on))

      next :
          (x : ℕ) → 0 < x → x < tree.rows
          → (within tree p (parent tree x) ≡ true → p ≢ parent tree x → (c : ℕ) × Kid tree p c × (within tree c (parent tree x) ≡ true))
          → within tree p x ≡ true → p ≢ x → (c : ℕ) × Kid tree p c × (within tree c x ≡ true)
      next x positive inside above on other =
          ⊎_elim (λ here. absurd (other (sym here))) (λ more. go (ℕ_discrete p (parent tree x)) (above more)) (nearer p x positive inside on)
        where
          go :
              Dec (p ≡ parent tree x) → (p ≢ parent tree x → (c : ℕ) × Kid tree p c × (within tree c (parent tree x) ≡ true))
              → (c : ℕ) × Kid tree p c × (within tree c x ≡ true)
          go (yes e) above = (x, record { positive = positive; inside = inside; under = sym e }, self_within x)
          go (no apart) above = let found = above apart in (found.0, found.1, further found.0 x positive inside found.2)

  pub one_child : (p c e x : ℕ) → x < tree.rows → Kid tree p c → Kid tree p e → within tree c x ≡ true → within tree e x ≡ true → c ≡ e
  one_child p c e x inside kid_c kid_e = climb (λ x. within tree c x ≡ true → within tree e x ≡ true → c ≡ e) root next x inside
    where
      root : within tree c 0 ≡ true → within tree e 0 ≡ true → c ≡ e
      root on_c on_e = only_root c on_c ∙ sym (only_root e on_e)

      -- one of the two is x itself, the other on the path from x's parent
      apart : (i j x : ℕ) → Kid tree p i → Kid tree p j → x ≡ i → within tree j (parent tree x) ≡ true → ⊥
      apart i j x kid_i kid_j here above =
          true≢false (sym above ∙ rw (ap (parent tree) here ∙ kid_i.under) (not_below p j kid_j))

      next :
          (x : ℕ) → 0 < x → x < tree.rows → (within tree c (parent tree x) ≡ true → within tree e (parent tree x) ≡ true → c ≡ e)
          → within tree c x ≡ true → within tree e x ≡ true → c ≡ e
      next x positive inside above on_c on_e = both (nearer c x positive inside on_c) (nearer e x positive inside on_e)
        where
          both : (x ≡ c) ⊎ (within tree c (parent tree x) ≡ true) → (x ≡ e) ⊎ (within tree e (parent tree x) ≡ true) → c ≡ e
          both (inl is_c) (inl is_e) = sym is_c ∙ is_e
          both (inl is_c) (inr above_e) = absurd (apart c e x kid_c kid_e is_c above_e)
          both (inr above_c) (inl is_e) = absurd (apart e c x kid_e kid_c is_e above_c)
          both (inr above_c) (inr above_e) = above above_c above_e

  -- the part of a sending class is itself
  pub sender_alone : (k x : ℕ) → Sender tree k → x < tree.rows → within tree k x ≡ true → x ≡ k
  sender_alone k x sender inside on = go (ℕ_discrete k x)
    where
      go : Dec (k ≡ x) → x ≡ k
      go (yes e) = sym e
      go (no other) =
          let below = child_within k x inside on other in
          absurd (true≢false (sym sender.sender ∙ parent_inner tree k below.0 below.1))

  -- ── a list changed along a path ──

  -- changing a list along the path from k changes the entries of the rows on it, each once
  pub along_length : (f : ℕ → ℕ → ℕ) (k : ℕ) (xs : List ℕ) → length (along tree f k xs) ≡ length xs
  unfolding along on_path
  along_length f k xs = lengths (depth tree k) k xs
    where
      lengths : (d k : ℕ) (xs : List ℕ) → length (on_path d tree f k xs) ≡ length xs
      lengths zero k xs = length-set xs k (f k (get_or xs k 0))
      lengths (suc d) k xs = lengths d (parent tree k) (set xs k (f k (get_or xs k 0))) ∙ length-set xs k (f k (get_or xs k 0))

  along_root : (f : ℕ → ℕ → ℕ) (xs : List ℕ) → along tree f 0 xs ≡ set xs 0 (f 0 (get_or xs 0 0))
  unfolding along on_path
  along_root f xs = rw sound.root_depth

  along_next :
      (f : ℕ → ℕ → ℕ) (k : ℕ) (xs : List ℕ) → 0 < k → k < tree.rows
      → along tree f k xs ≡ along tree f (parent tree k) (set xs k (f k (get_or xs k 0)))
  unfolding along on_path
  along_next f k xs positive inside = rw (sound.deeper k positive inside)

  pub along_at :
      (f : ℕ → ℕ → ℕ) (k r : ℕ) (xs : List ℕ) → k < tree.rows → r < tree.rows → length xs ≡ most_rows
      → get_or (along tree f k xs) r 0 ≡ cond (within tree r k) (f r (get_or xs r 0)) (get_or xs r 0)
  along_at f k r xs k_inside r_inside full = climb At root next k k_inside xs full
    where
      At : ℕ → Type 0
      At k =
          (xs : List ℕ) → length xs ≡ most_rows
          → get_or (along tree f k xs) r 0 ≡ cond (within tree r k) (f r (get_or xs r 0)) (get_or xs r 0)

      stored : (x : ℕ) (xs : List ℕ) → x < tree.rows → length xs ≡ most_rows → x ≡ r → get_or (set xs x (f x (get_or xs x 0))) r 0 ≡ f r (get_or xs r 0)
      stored x xs inside full here =
          let few = sound.few_rows in
          rw here (get_or-set_same xs r (f r (get_or xs r 0)) 0 (omega arith))

      root : At 0
      root xs full = rw (along_root f xs, within_root r) (go (ℕ_discrete 0 r))
        where
          go : Dec (0 ≡ r) → get_or (set xs 0 (f 0 (get_or xs 0 0))) r 0 ≡ cond (eqb 0 r) (f r (get_or xs r 0)) (get_or xs r 0)
          go (yes here) = rw (eq-eqb 0 r here) (stored 0 xs sound.some_rows full here)
          go (no other) = rw (ne_eqb 0 r other) (get_or-set_other xs 0 r (f 0 (get_or xs 0 0)) 0 (λ e. other (sym e)))

      next : (x : ℕ) → 0 < x → x < tree.rows → At (parent tree x) → At x
      next x positive inside above xs full =
          rw (along_next f x xs positive inside, above now (length-set xs x (f x (get_or xs x 0)) ∙ full), within_next r x positive inside)
          (go (ℕ_discrete x r))
        where
          now : List ℕ
          now = set xs x (f x (get_or xs x 0))

          go :
              Dec (x ≡ r)
              → cond (within tree r (parent tree x)) (f r (get_or now r 0)) (get_or now r 0)
              ≡ cond (eqb x r || within tree r (parent tree x)) (f r (get_or xs r 0)) (get_or xs r 0)
          go (yes here) =
              let not_above : within tree r (parent tree x) ≡ false =
              ap (λ (i : ℕ). within tree i (parent tree x)) (sym here) ∙ not_below (parent tree x) x (its_parent x positive inside) in
              rw (not_above, eq-eqb x r here) (stored x xs inside full here)
          go (no other) = rw (ne_eqb x r other, get_or-set_other xs x r (f x (get_or xs x 0)) 0 (λ e. other (sym e)))
