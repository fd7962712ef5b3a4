-- How deep the rows are: proofs that go up a path or come up from the children, and which rows are off a path.
-- Assumes nothing.
use Prim.Native.Nat.{ℕ, zero, suc, ◌+◌, ◌-◌, ◌≤◌, ◌<◌}
use mathlib.Core.Path.{◌≡◌, refl, sym, ◌∙◌, ap, subst}
use mathlib.Core.Logic.{◌≢◌, ◌⊎◌, inl, inr, ⊎_elim}
use mathlib.Core.Bool.{Bool, true, false, false≢true}
use mathlib.Mathlib.Data.Bool.Basic.{eq-false_of_not-eq-true as refuted}
use native.Mathlib.Omega.{arith}
use Rattle.input.specs.Limits.{most_depth}
use Rattle.input.specs.Classes.{Tree, parent, depth, sends}
use Rattle.rules.specs.Promise.{within}
use Rattle.laws.specs.Sound.{Sound, Kid, Inner, Sender}
use Rattle.laws.proofs.Tree.Paths.{sends_sender, its_parent, below_root, only_root, further, nearer, no_deeper, self_within, parent_within, child_within, one_child, sender_alone}

module _ (tree : Tree) (sound : Sound tree) where
  pub sender_or_inner : (r : ℕ) → r < tree.rows → Sender tree r ⊎ Inner tree r
  sender_or_inner r inside = go (sends tree r) refl
    where
      go : (b : Bool) → sends tree r ≡ b → Sender tree r ⊎ Inner tree r
      go true is = inl (sends_sender tree r inside is)
      go false is = inr (record { inside = inside; no_sender = is })

  -- ── depths ──

  -- a child is one deeper than its parent
  pub kid_deeper : (p c : ℕ) → Kid tree p c → depth tree c ≡ suc (depth tree p)
  kid_deeper p c kid = rw (← kid.under) (sound.deeper c kid.positive kid.inside)

  -- a row deeper than the root is its parent's child
  pub lower_kid : (d r : ℕ) → r < tree.rows → depth tree r ≡ suc d → Kid tree (parent tree r) r
  lower_kid d r inside deep = its_parent tree sound r (below_root tree sound r d deep) inside

  -- a row on the path from r is r, or less deep
  pub path_depth : (r j : ℕ) → r < tree.rows → within tree j r ≡ true → (j ≡ r) ⊎ (depth tree j < depth tree r)
  path_depth zero j inside on = inl (only_root tree sound j on)
  path_depth (suc r) j inside on = ⊎_elim (λ here. inl (sym here)) (λ above. inr (higher above)) (nearer tree sound j (suc r) (omega arith) inside on)
    where
      higher : within tree j (parent tree (suc r)) ≡ true → depth tree j < depth tree (suc r)
      higher above =
          let deeper = sound.deeper (suc r) (omega arith) inside in
          let high = no_deeper tree sound j (parent tree (suc r)) (sound.parent_row (suc r) (omega arith) inside) above in
          omega arith

  -- a parent of a row on the path from r is less deep than r
  pub path_higher : (r p c : ℕ) → r < tree.rows → Kid tree p c → within tree c r ≡ true → depth tree p < depth tree r
  path_higher r p c inside kid on =
      let deeper = kid_deeper p c kid in
      let high = no_deeper tree sound c r inside on in
      omega arith

  pub deeper_apart : (j r : ℕ) → depth tree j < depth tree r → j ≢ r
  deeper_apart j r less e = let f = ap (depth tree) e in omega arith

  -- ── up the path ──

  -- what k has, and a parent on the path from k has where its child on the path has it, all rows on the path have
  module _ (k : ℕ) (inside_k : k < tree.rows) (P : ℕ → Type 0) (first : P k)
      (step : (p c : ℕ) → Kid tree p c → within tree c k ≡ true → P c → P p) where
    upwards_from : (n r : ℕ) → r < tree.rows → within tree r k ≡ true → depth tree r + n ≡ depth tree k → P r
    upwards_from zero r inside on far =
        ⊎_elim (λ e. subst P (sym e) first) (λ less. absurd (omega arith)) (path_depth k r inside_k on)
    upwards_from (suc n) r inside on far =
        let below = child_within tree sound r k inside_k on (deeper_apart r k (omega arith)) in
        let deeper = kid_deeper r below.0 below.1 in
        step r below.0 below.1 below.2 (upwards_from n below.0 below.1.inside below.2 (omega arith))

    pub upwards : (r : ℕ) → r < tree.rows → within tree r k ≡ true → P r
    upwards r inside on =
        let high = no_deeper tree sound r k inside_k on in
        upwards_from (depth tree k - depth tree r) r inside on (omega arith)

  -- ── up from the children ──

  -- a proof may take for granted that a row's children have been seen to
  pub from_children :
      (P : ℕ → Type 0) → ((r : ℕ) → r < tree.rows → ((j : ℕ) → Kid tree r j → P j) → P r)
      → (r : ℕ) → r < tree.rows → P r
  from_children P next r inside = go most_depth r inside (omega arith)
    where
      go : (d r : ℕ) → r < tree.rows → most_depth ≤ depth tree r + d → P r
      go zero r inside reach =
          next r inside (λ j kid. let deeper = kid_deeper r j kid in let shallow = sound.shallow j kid.inside in absurd (omega arith))
      go (suc d) r inside reach = next r inside (λ j kid. go d j kid.inside (let deeper = kid_deeper r j kid in omega arith))

  -- ── rows off a path ──

  pub off_at_parent : (p r j : ℕ) → Kid tree p r → within tree j r ≡ false → within tree j p ≡ false
  off_at_parent p r j kid off =
      refuted (λ on. false≢true (sym off ∙ further tree sound j r kid.positive kid.inside (rw kid.under on)))

  pub off_apart : (k j : ℕ) → within tree j k ≡ false → j ≢ k
  off_apart k j off e = false≢true (sym off ∙ ap (λ (i : ℕ). within tree i k) e ∙ self_within tree sound k)

  module _ (k : ℕ) (inside : k < tree.rows) where
    pub kid_off : (p j : ℕ) → Kid tree p j → within tree p k ≡ false → within tree j k ≡ false
    kid_off p j kid off = refuted (λ on. false≢true (sym off ∙ parent_within tree sound p j k inside kid on))

    pub sibling_off : (p c j : ℕ) → Kid tree p c → within tree c k ≡ true → Kid tree p j → j ≢ c → within tree j k ≡ false
    sibling_off p c j kid on kid_j apart =
        refuted (λ on_j. apart (one_child tree sound p j c k inside kid_j kid on_j on))

    pub sender_off : (j : ℕ) → Sender tree j → j ≢ k → within tree j k ≡ false
    sender_off j sender apart = refuted (λ on. apart (sym (sender_alone tree sound j k sender inside on)))

  -- an inner row on the path from a sending class has a child on it
  pub inner_below :
      (k p : ℕ) → Sender tree k → Inner tree p → within tree p k ≡ true → (c : ℕ) × Kid tree p c × (within tree c k ≡ true)
  inner_below k p sender inner on =
      child_within tree sound p k sender.inside on (λ e. false≢true (sym inner.no_sender ∙ ap (sends tree) e ∙ sender.sender))
