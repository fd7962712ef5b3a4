-- A class gets a head, which sets it aside, and the row aside is filed.
-- Assumes nothing.
use Prim.Native.Nat.{ℕ, suc, ◌≤◌, ◌<◌}
use mathlib.Core.Path.{◌≡◌, refl, sym, ◌∙◌, ap, subst}
use mathlib.Core.Logic.{◌≢◌, ◌⊎◌, inl, inr, ⊎_elim}
use native.Mathlib.Decide.{ℕ_discrete, dec_le}
use native.Mathlib.Omega.{arith}
use borrow.Author.Tests.{le-leb, lt-leb}
use Rattle.input.specs.Classes.{Tree, parent}
use Rattle.rules.specs.declared.Why.{Why}
use Rattle.rules.specs.Box.{Rows, start, virtual, head}
use Rattle.rules.specs.Steps.{new_head}
use Rattle.laws.specs.Sound.{Sound, Kid, Sender}
use Rattle.laws.specs.Moves.{SameRow}
use Rattle.laws.specs.Named.{PacketOf}
use Rattle.laws.proofs.Tree.Paths.{its_parent, parent_is_inner}
use Rattle.laws.proofs.Path.Choosing.{new_head_full, new_head_elsewhere}
use Rattle.laws.proofs.Path.Naming.{named_apart, new_head_named}
use Rattle.heaps.specs.Heaps.{Forest, moved}
use Rattle.heaps.proofs.Homes.{moved_own, moved_else}
use Rattle.waiting.specs.Waiting.{eligible_heap, added, home_of}
use Rattle.waiting.proofs.Laws.{added_heaps}
use Rattle.filing.specs.Heaped.{Untaken, Owned, Heaped}
use Rattle.filing.proofs.Anew.{heaps_after, untaken_as, no_kid}

-- where a row comes to when it is filed
home_found :
    (a : Rows) (p r : ℕ) → Dec (start a r ≤ virtual a p)
    → (home_of a.starts p (virtual a p) r ≡ suc p)
    ⊎ ((home_of a.starts p (virtual a p) r ≡ suc (eligible_heap p)) × (start a r ≤ virtual a p))
unfolding home_of
home_found a p r (yes low) = inr (rw (le-leb (start a r) (virtual a p) low), low)
home_found a p r (no high) = inl (rw (lt-leb (start a r) (virtual a p) (omega arith)))

module _ (tree : Tree) (sound : Sound tree) (class_of : ℕ → ℕ) where
  -- ── a class gets a head ──

  -- it is aside then
  pub headed :
      (why : Why) (k packet length class : ℕ) (a : Rows) (f : Forest) → Sender tree k → head a k ≡ 0 → PacketOf tree class_of k packet
      → Heaped tree class_of a 0 f → Heaped tree class_of (new_head tree why k packet length class a) k f
  headed why k packet length class a f sender none its old =
      record {
        full = new_head_full tree sound why k packet length class sender.inside a old.full;
        named = new_head_named tree sound class_of why k packet length class sender.inside a old.full its old.named;
        owned = owned;
        home = old.home;
        heaps = heaps_after a b f old.home (λ x at. same x (λ e. (old.filed x at).0.has (ap (head a) e ∙ none))) old.heaps;
        filed = filed;
        at_home = at_home;
      }
    where
      b : Rows
      b = new_head tree why k packet length class a

      same : (j : ℕ) → j ≢ k → SameRow a b j
      same j apart = new_head_elsewhere tree sound why k packet length class sender.inside a old.full j apart

      head_as : (j : ℕ) → j ≢ k → head b j ≡ head a j
      head_as j apart = (same j apart).kid.head_same.packet_same

      above : (x : ℕ) → 0 < x → x < tree.rows → parent tree x ≢ k
      above x positive inside e = no_kid tree sound k x sender (subst (λ (p : ℕ). Kid tree p x) e (its_parent tree sound x positive inside))

      owned : Owned tree b k
      owned p x kid some =
          let p_apart : p ≢ k = λ e. no_kid tree sound k x sender (subst (λ (q : ℕ). Kid tree q x) e kid) in
          let has : head a p ≢ 0 = λ e. some (head_as p p_apart ∙ e) in
          let (t, kid_t, not_aside, own) = old.owned p x kid has in
          let apart : t ≢ k = λ e. has (sym own ∙ ap (head a) e ∙ none) in
          (t, kid_t, apart, head_as t apart ∙ own ∙ sym (head_as p p_apart))

      filed : (x : ℕ) → old.home x ≢ 0 → Untaken tree b x × (x ≢ k)
      filed x at =
          let was = (old.filed x at).0 in
          let apart : x ≢ k = λ e. was.has (ap (head a) e ∙ none) in
          (untaken_as tree a b x (head_as x apart) (head_as (parent tree x) (above x was.positive was.inside)) was, apart)

      at_home :
          (x : ℕ) → Untaken tree b x → x ≢ k
          → (old.home x ≡ suc (parent tree x)) ⊎ ((old.home x ≡ suc (eligible_heap (parent tree x))) × (start b x ≤ virtual b (parent tree x)))
      at_home x now apart =
          let up = same (parent tree x) (above x now.positive now.inside) in
          let own = same x apart in
          let was = untaken_as tree b a x (sym (head_as x apart)) (sym up.kid.head_same.packet_same) now in
          ⊎_elim (λ late. inl late) (λ soon. inr (soon.0, omega (arith, soon.1)))
          (old.at_home x was (λ e. omega (arith, now.positive)))

  -- it is as well aside with no head
  pub set_aside : (a : Rows) (k : ℕ) (f : Forest) → head a k ≡ 0 → Heaped tree class_of a 0 f → Heaped tree class_of a k f
  set_aside a k f none old =
      record {
        full = old.full;
        named = old.named;
        owned = λ p x kid some.
            let (t, kid_t, apart, own) = old.owned p x kid some in
            (t, kid_t, (λ e. some (sym own ∙ ap (head a) e ∙ none)), own);
        home = old.home;
        heaps = old.heaps;
        filed = λ x at. let was = (old.filed x at).0 in (was, λ e. was.has (ap (head a) e ∙ none));
        at_home = λ x now apart. old.at_home x now (λ e. omega (arith, now.positive));
      }

  -- ── the row aside is filed ──

  -- it has no head
  pub none_aside : (a : Rows) (r : ℕ) (f : Forest) → head a r ≡ 0 → Heaped tree class_of a r f → Heaped tree class_of a 0 f
  none_aside a r f none old =
      record {
        full = old.full;
        named = old.named;
        owned = λ p x kid some. let (t, kid_t, apart, own) = old.owned p x kid some in (t, kid_t, (λ e. omega (arith, kid_t.positive)), own);
        home = old.home;
        heaps = old.heaps;
        filed = λ x at. let was = (old.filed x at).0 in (was, λ e. omega (arith, was.positive));
        at_home = λ x now apart. old.at_home x now (λ e. now.has (ap (head a) e ∙ none));
      }

  -- it has one, and joins those that wait at its parent p
  pub one_aside :
      (a : Rows) (p r : ℕ) (f : Forest) → Kid tree p r → head a r ≢ 0 → Heaped tree class_of a r f
      → Heaped tree class_of a 0 (added a.starts a.finishes a.heads p (virtual a p) r f)
  one_aside a p r f kid has old =
      record {
        full = old.full;
        named = old.named;
        owned = λ q x kid_x some. let (t, kid_t, apart, own) = old.owned q x kid_x some in (t, kid_t, (λ e. omega (arith, kid_t.positive)), own);
        home = home;
        heaps =
            added_heaps a p (virtual a p) r f old.home (omega (arith, (parent_is_inner tree sound p r kid).inside, sound.few_rows)) kid.positive
            (omega (arith, kid.inside, sound.few_rows)) (nowhere (ℕ_discrete (old.home r) 0)) old.heaps;
        filed = λ x at. filed x at (ℕ_discrete x r);
        at_home = λ x now apart. at_home x now (ℕ_discrete x r);
      }
    where
      home : ℕ → ℕ
      home = moved old.home r (home_of a.starts p (virtual a p) r)

      nowhere : Dec (old.home r ≡ 0) → old.home r ≡ 0
      nowhere (yes e) = e
      nowhere (no at) = absurd ((old.filed r at).1 refl)

      -- its parent's head is another child's
      waiting : Untaken tree a r
      waiting =
          record {
            positive = kid.positive;
            inside = kid.inside;
            has = has;
            other = λ e.
                let above : head a r ≡ head a p = e ∙ ap (head a) kid.under in
                let (t, kid_t, apart, own) = old.owned p r kid (λ none. has (above ∙ none)) in
                apart (sym (named_apart tree sound class_of a old.named p r t kid kid_t has (above ∙ sym own)));
          }

      filed : (x : ℕ) → home x ≢ 0 → Dec (x ≡ r) → Untaken tree a x × (x ≢ 0)
      filed x at (yes e) = (subst (λ (i : ℕ). Untaken tree a i) (sym e) waiting, λ none. omega (arith, kid.positive))
      filed x at (no apart) =
          let was = (old.filed x (λ none. at (moved_else old.home r _ x apart ∙ none))).0 in
          (was, λ none. omega (arith, was.positive))

      at_home :
          (x : ℕ) → Untaken tree a x → Dec (x ≡ r)
          → (home x ≡ suc (parent tree x)) ⊎ ((home x ≡ suc (eligible_heap (parent tree x))) × (start a x ≤ virtual a (parent tree x)))
      at_home x now (no apart) =
          rw (moved_else old.home r (home_of a.starts p (virtual a p) r) x apart) (old.at_home x now apart)
      at_home x now (yes e) = rw (e, moved_own old.home r (home_of a.starts p (virtual a p) r), kid.under) (home_found a p r (dec_le (start a r) (virtual a p)))
