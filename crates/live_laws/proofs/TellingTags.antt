-- Tags, how large they are, and what is counted: the tests of it say what the laws have, and no more.
-- Assumes nothing.
use Prim.Native.Nat.{ℕ, zero, suc, ◌+◌, ◌*◌, ◌≤◌, ◌<◌}
use mathlib.Core.Path.{◌≡◌, refl, sym, ap, ◌∙◌}
use mathlib.Core.Logic.{◌≢◌, ⊎_elim}
use mathlib.Core.Bool.{true, false, cond, not, ◌&&◌, and-false, or-true}
use native.Mathlib.Decide.{ℕ_discrete}
use native.Mathlib.Omega.{arith}
use lib.Dec.{leb, eqb}
use lib.ListN.{get_or}
use borrow.Author.Tests.{leb-true, eqb-true, le-leb, eq-eqb, ne_eqb}
use Rattle.input.specs.Limits.{most_bytes}
use Rattle.input.specs.Shares.{charge}
use Rattle.input.specs.Classes.{Tree, parent, share}
use Rattle.rules.specs.Box.{Rows, start, finish, virtual, head, head_length, head_class, has_head}
use Rattle.laws.specs.Sound.{Sound, Kid, Inner, Sender}
use Rattle.laws.specs.Moves.{Settled}
use Rattle.laws.specs.Kept.{Taken, none, one}
use Rattle.laws.specs.Sizes.{level_most, Sized, Marked}
use Rattle.laws.proofs.Level.Heads.{some_has, none_has}
use Rattle.laws.proofs.Tree.Paths.{its_parent, parent_is_inner, one_child}
use Rattle.laws.proofs.Tree.Depths.{sender_or_inner}
use Rattle.live_rules.specs.State.{Live, box_of, gone}
use Rattle.live_rules.specs.Soundness.{tags_sound, untaken, sizes_sound, counts_sound, level_most as most_at}
use Rattle.live_rules.proofs.Alls.{both_true, true_both}

-- ── tags ──

module _ (tree : Tree) (a : Rows) where
  pub root_tags : tags_sound tree a 0 ≡ true → (start a 0 ≡ 0) × (finish a 0 ≡ 0)
  unfolding tags_sound
  root_tags pass =
      let both = both_true (eqb (start a 0) 0) (eqb (finish a 0) 0) pass in
      (eqb-true (start a 0) 0 both.0, eqb-true (finish a 0) 0 both.1)

  pub tells_root : start a 0 ≡ 0 → finish a 0 ≡ 0 → tags_sound tree a 0 ≡ true
  unfolding tags_sound
  tells_root starts ends = true_both (eqb (start a 0) 0) (eqb (finish a 0) 0) (eq-eqb (start a 0) 0 starts) (eq-eqb (finish a 0) 0 ends)

  module _ (r : ℕ) (positive : 0 < r) where
    pub headed_tags : tags_sound tree a r ≡ true → head a r ≢ 0 → finish a r ≡ start a r + charge (head_length a r) (share tree r)
    unfolding tags_sound
    headed_tags pass has =
        eqb-true (finish a r) (start a r + charge (head_length a r) (share tree r))
        (rw (ne_eqb r 0 (omega arith), some_has a r has) at pass)

    idle_tags : tags_sound tree a r ≡ true → head a r ≡ 0 → start a r ≤ finish a r
    unfolding tags_sound
    idle_tags pass idles = leb-true (start a r) (finish a r) (rw (ne_eqb r 0 (omega arith), none_has a r idles) at pass)

    pub tells_tags :
        (head a r ≢ 0 → finish a r ≡ start a r + charge (head_length a r) (share tree r)) → start a r ≤ finish a r → tags_sound tree a r ≡ true
    unfolding tags_sound
    tells_tags tagged forward = go (ℕ_discrete (head a r) 0)
      where
        go :
            Dec (head a r ≡ 0)
            → cond (eqb r 0) (eqb (start a 0) 0 && eqb (finish a 0) 0)
            (cond (has_head a r) (eqb (finish a r) (start a r + charge (head_length a r) (share tree r))) (leb (start a r) (finish a r)))
            ≡ true
        go (yes idles) = rw (ne_eqb r 0 (omega arith), none_has a r idles) (le-leb (start a r) (finish a r) forward)
        go (no has) =
            rw (ne_eqb r 0 (omega arith), some_has a r has)
            (eq-eqb (finish a r) (start a r + charge (head_length a r) (share tree r)) (tagged has))

  pub forward_tags : (r : ℕ) → tags_sound tree a r ≡ true → start a r ≤ finish a r
  forward_tags zero pass = let is = root_tags pass in omega arith
  forward_tags (suc r) pass = go (ℕ_discrete (head a (suc r)) 0)
    where
      go : Dec (head a (suc r) ≡ 0) → start a (suc r) ≤ finish a (suc r)
      go (yes idles) = idle_tags (suc r) (omega arith) pass idles
      go (no has) = let is = headed_tags (suc r) (omega arith) pass has in omega arith

-- ── sizes ──

-- the most of a level, as the test and as the laws have it
same_most : (left : ℕ) (a : Rows) (p : ℕ) → most_at left a p ≡ level_most most_bytes left a p
unfolding most_at
same_most left a p = refl

-- whether the parent has taken the row's head
module _ (tree : Tree) (a : Rows) (p j : ℕ) (kid : Kid tree p j) where
  waits_untaken : head a j ≢ 0 → head_class a j ≢ head_class a p → untaken tree a j ≡ true
  unfolding untaken
  waits_untaken has other = rw (some_has a j has, kid.under, ne_eqb (head_class a j) (head_class a p) other)

  idle_untaken : head a j ≡ 0 → untaken tree a j ≡ false
  unfolding untaken
  idle_untaken idles = rw (none_has a j idles)

  same_untaken : head_class a j ≡ head_class a p → untaken tree a j ≡ false
  unfolding untaken
  same_untaken same = rw (kid.under, eq-eqb (head_class a j) (head_class a p) same) (and-false (has_head a j))

-- the two tests of a row
module _ (tree : Tree) (left : ℕ) (a : Rows) where
  virtual_size : (r : ℕ) → sizes_sound tree left a r ≡ true → virtual a r ≤ most_at left a r
  unfolding sizes_sound
  virtual_size r pass = leb-true (virtual a r) (most_at left a r) (both_true (leb (virtual a r) (most_at left a r)) _ pass).0

  tag_size :
      (p j : ℕ) → Kid tree p j → sizes_sound tree left a j ≡ true → cond (untaken tree a j) (start a j) (finish a j) ≤ most_at left a p
  unfolding sizes_sound
  tag_size p j kid pass =
      let second = (both_true (leb (virtual a j) (most_at left a j)) _ pass).1 in
      leb-true (cond (untaken tree a j) (start a j) (finish a j)) (most_at left a p)
      (rw (ne_eqb j 0 (omega (arith, kid.positive)), kid.under) at second)

  tells_sizes :
      (r : ℕ) → virtual a r ≤ most_at left a r → (0 < r → cond (untaken tree a r) (start a r) (finish a r) ≤ most_at left a (parent tree r))
      → sizes_sound tree left a r ≡ true
  unfolding sizes_sound
  tells_sizes zero time tag =
      true_both (leb (virtual a 0) (most_at left a 0)) true (le-leb (virtual a 0) (most_at left a 0) time) refl
  tells_sizes (suc r) time tag =
      true_both (leb (virtual a (suc r)) (most_at left a (suc r))) _ (le-leb (virtual a (suc r)) (most_at left a (suc r)) time)
      (rw (le-leb (cond (untaken tree a (suc r)) (start a (suc r)) (finish a (suc r))) (most_at left a (parent tree (suc r))) (tag (omega arith)))
      (or-true (eqb (suc r) 0)))

module _ (tree : Tree) (sound : Sound tree) (a : Rows) (settled : Settled tree a) where
  -- no two children have heads of one class
  same_class :
      (p j t : ℕ) → Kid tree p j → Kid tree p t → head a j ≢ 0 → head a t ≢ 0 → head_class a j ≡ head_class a t → j ≡ t
  same_class p j t kid_j kid_t has_j has_t same =
      one_child tree sound p j t (head_class a j) (settled.of_sender j kid_j.inside has_j).inside kid_j kid_t
      (settled.of_part j kid_j.inside has_j) (rw same (settled.of_part t kid_t.inside has_t))

  -- so a child whose head has p's class is the one that p has taken
  is_taken : (p t j : ℕ) → Taken tree a p t → Kid tree p j → head a j ≢ 0 → head_class a j ≡ head_class a p → j ≡ t
  is_taken p t j (none idles is) kid has same = absurd (has (settled.idle_below p idles j kid))
  is_taken p t j (one busy kid_t heads) kid has same =
      same_class p j t kid kid_t has (λ idles. busy (sym heads.packet_same ∙ idles)) (same ∙ sym heads.class_same)

  taken_class : (p t : ℕ) → Taken tree a p t → Kid tree p t → head_class a t ≡ head_class a p
  taken_class p t (none idles is) kid = let positive = kid.positive in absurd (omega arith)
  taken_class p t (one busy kid_t heads) kid = heads.class_same

  module _ (left : ℕ) where
    pub sizes_hold : ((r : ℕ) → r < tree.rows → sizes_sound tree left a r ≡ true) → Sized tree most_bytes left a
    sizes_hold each p t inner taken =
        record {
          virtual_sized = rw (same_most left a p) at (virtual_size tree left a p (each p inner.inside));
          waiting_sized = λ j kid other has.
              rw (waits_untaken tree a p j kid has (λ same. other (is_taken p t j taken kid has same))) at (within_most j kid);
          idle_sized = λ j kid other idles. rw (idle_untaken tree a p j kid idles) at (within_most j kid);
          taken_sized = λ kid. rw (same_untaken tree a p t kid (taken_class p t taken kid)) at (within_most t kid);
        }
      where
        within_most : (j : ℕ) → Kid tree p j → cond (untaken tree a j) (start a j) (finish a j) ≤ level_most most_bytes left a p
        within_most j kid = rw (same_most left a p) at (tag_size tree left a p j kid (each j kid.inside))

    -- the child that p has taken, if it has one
    pub taken_at : (p : ℕ) → Inner tree p → (t : ℕ) × Taken tree a p t
    taken_at p inner = go (ℕ_discrete (head a p) 0)
      where
        go : Dec (head a p ≡ 0) → (t : ℕ) × Taken tree a p t
        go (yes idles) = (0, none idles refl)
        go (no busy) = let (t, kid, same) = settled.from_child p inner busy in (t, one busy kid same)

    module _ (sized : Sized tree most_bytes left a) where
      -- a child that waits is not the taken one, nor is one that is idle
      kid_sized :
          (p j t : ℕ) → Inner tree p → Taken tree a p t → Kid tree p j
          → cond (untaken tree a j) (start a j) (finish a j) ≤ level_most most_bytes left a p
      kid_sized p j t inner taken kid = go (ℕ_discrete (head a j) 0) (ℕ_discrete (head_class a j) (head_class a p))
        where
          not_idle : (t : ℕ) → Taken tree a p t → head a j ≡ 0 → j ≢ t
          not_idle t (none idles is) empty same = let positive = kid.positive in omega arith
          not_idle t (one busy kid_t heads) empty same = busy (sym heads.packet_same ∙ ap (head a) (sym same) ∙ empty)

          go :
              Dec (head a j ≡ 0) → Dec (head_class a j ≡ head_class a p)
              → cond (untaken tree a j) (start a j) (finish a j) ≤ level_most most_bytes left a p
          go (yes empty) class = rw (idle_untaken tree a p j kid empty) ((sized p t inner taken).idle_sized j kid (not_idle t taken empty) empty)
          go (no has) (yes same) =
              let here = is_taken p t j taken kid has same in
              rw (same_untaken tree a p j kid same, here) ((sized p t inner taken).taken_sized (rw here at kid))
          go (no has) (no other) =
              rw (waits_untaken tree a p j kid has other)
              ((sized p t inner taken).waiting_sized j kid (λ here. other (taken_same here)) has)
            where
              taken_same : j ≡ t → head_class a j ≡ head_class a p
              taken_same here = ap (head_class a) here ∙ taken_class p t taken (rw here at kid)

      pub hold_sizes :
          ((k : ℕ) → Sender tree k → virtual a k ≡ 0) → (r : ℕ) → r < tree.rows → sizes_sound tree left a r ≡ true
      hold_sizes rests r inside = tells_sizes tree left a r (⊎_elim sends inner (sender_or_inner tree sound r inside)) above
        where
          sends : Sender tree r → virtual a r ≤ most_at left a r
          sends sender = let still = rests r sender in omega arith

          inner : Inner tree r → virtual a r ≤ most_at left a r
          inner is = let (t, taken) = taken_at r is in rw (same_most left a r) (sized r t is taken).virtual_sized

          above : 0 < r → cond (untaken tree a r) (start a r) (finish a r) ≤ most_at left a (parent tree r)
          above positive =
              let kid = its_parent tree sound r positive inside in
              let is = parent_is_inner tree sound (parent tree r) r kid in
              let (t, taken) = taken_at (parent tree r) is in
              rw (same_most left a (parent tree r)) (kid_sized (parent tree r) r t is taken kid)

-- ── counts ──

module _ (live : Live) where
  counts_fit :
      (r : ℕ) → counts_sound live r ≡ true
      → (get_or live.bytes r 0 ≤ most_bytes * gone live) × (get_or live.since r 0 ≤ get_or live.bytes r 0)
      × (get_or live.parent_since r 0 ≤ get_or live.bytes (parent live.tree r) 0)
  unfolding counts_sound
  counts_fit r pass =
      let first = both_true (leb (get_or live.bytes r 0) (most_bytes * gone live)) _ pass in
      let second =
      both_true (leb (get_or live.since r 0) (get_or live.bytes r 0))
      (leb (get_or live.parent_since r 0) (get_or live.bytes (parent live.tree r) 0)) first.1 in (
        leb-true (get_or live.bytes r 0) (most_bytes * gone live) first.0,
        leb-true (get_or live.since r 0) (get_or live.bytes r 0) second.0,
        leb-true (get_or live.parent_since r 0) (get_or live.bytes (parent live.tree r) 0) second.1,
      )

  pub counts_hold : ((r : ℕ) → r < live.tree.rows → counts_sound live r ≡ true) → Marked live.tree most_bytes (gone live) (box_of live)
  unfolding box_of
  counts_hold each =
      record {
        bytes_most = λ r inside. (counts_fit r (each r inside)).0;
        since_most = λ r inside. (counts_fit r (each r inside)).1;
        parent_since_most = λ r inside. (counts_fit r (each r inside)).2;
      }

  pub hold_counts : Marked live.tree most_bytes (gone live) (box_of live) → (r : ℕ) → r < live.tree.rows → counts_sound live r ≡ true
  unfolding counts_sound box_of
  hold_counts marked r inside =
      true_both (leb (get_or live.bytes r 0) (most_bytes * gone live)) _
      (le-leb (get_or live.bytes r 0) (most_bytes * gone live) (marked.bytes_most r inside))
      (true_both (leb (get_or live.since r 0) (get_or live.bytes r 0))
      (leb (get_or live.parent_since r 0) (get_or live.bytes (parent live.tree r) 0))
      (le-leb (get_or live.since r 0) (get_or live.bytes r 0) (marked.since_most r inside))
      (le-leb (get_or live.parent_since r 0) (get_or live.bytes (parent live.tree r) 0) (marked.parent_since_most r inside)))
