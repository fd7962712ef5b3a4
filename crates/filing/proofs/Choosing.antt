-- A row without a head chooses, which sets it aside: the child that it takes is in no heap any more.
-- Assumes nothing.
use Prim.Native.Nat.{ℕ, suc, ◌≤◌, ◌<◌}
use mathlib.Core.Path.{◌≡◌, refl, sym, ◌∙◌, ap, subst}
use mathlib.Core.Logic.{◌≢◌, ◌⊎◌, inl, inr, ⊎_elim}
use mathlib.Core.Bool.{Bool, true, false, cond, ◌&&◌}
use mathlib.Core.List.{List}
use native.Mathlib.Decide.{ℕ_discrete, dec_le}
use native.Mathlib.Omega.{arith}
use lib.Dec.{eqb, leb}
use lib.ListN.{get_or}
use borrow.Author.Tests.{eq-eqb, ne_eqb, le-leb, lt-leb}
use Rattle.input.specs.Limits.{most_rows}
use Rattle.input.specs.Classes.{Tree, parent}
use Rattle.rules.specs.declared.Why.{Why}
use Rattle.rules.specs.Box.{Rows, start, virtual, head}
use Rattle.rules.specs.Steps.{raised, pick, chooses}
use Rattle.laws.specs.Sound.{Sound, Kid, Inner}
use Rattle.laws.specs.Moves.{SameRow}
use Rattle.laws.proofs.Tree.Paths.{kid_apart, its_parent, parent_is_inner}
use Rattle.laws.proofs.Path.Choosing.{Nobody, kid_waits, waits_kid, chooses_full, chooses_elsewhere, Picks, chooses_picked}
use Rattle.laws.proofs.Path.Naming.{named_apart, chooses_named}
use Rattle.heaps.specs.Heaps.{Forest}
use Rattle.waiting.specs.Waiting.{eligible_heap, time_of, child_of, rest_of, chosen_home, Here}
use Rattle.waiting.proofs.Laws.{time_right, child_right, rest_heaps}
use Rattle.filing.specs.Heaped.{Untaken, Owned, Heaped}
use Rattle.filing.proofs.Anew.{heaps_after, untaken_as}

-- where a row is when p has chosen: it has become eligible, or is where it was
module _ (starts : List ℕ) (p t child : ℕ) (home : ℕ → ℕ) (x : ℕ) where
  chosen_some : chosen_home starts p t child home x ≢ 0 → (x ≢ child) × (home x ≢ 0)
  unfolding chosen_home
  chosen_some at = (λ e. at (rw (eq-eqb x child e)), λ e. at (rw (e, ne_eqb 0 (suc p) (λ z. omega arith)) (nowhere (eqb x child))))
    where
      nowhere : (b : Bool) → ◌≡◌ {A = ℕ} (cond b 0 0) 0
      nowhere true = refl
      nowhere false = refl

  chosen_other :
      x ≢ child
      → (chosen_home starts p t child home x ≡ home x)
      ⊎ ((home x ≡ suc p) × (get_or starts x 0 ≤ t) × (chosen_home starts p t child home x ≡ suc (eligible_heap p)))
  unfolding chosen_home
  chosen_other apart = rw (ne_eqb x child apart) (go (ℕ_discrete (home x) (suc p)) (dec_le (get_or starts x 0) t))
    where
      go :
          Dec (home x ≡ suc p) → Dec (get_or starts x 0 ≤ t)
          → (cond (eqb (home x) (suc p) && leb (get_or starts x 0) t) (suc (eligible_heap p)) (home x) ≡ home x)
          ⊎ ((home x ≡ suc p) × (get_or starts x 0 ≤ t)
          × (cond (eqb (home x) (suc p) && leb (get_or starts x 0) t) (suc (eligible_heap p)) (home x) ≡ suc (eligible_heap p)))
      go (yes at) (yes low) = inr (at, low, rw (eq-eqb (home x) (suc p) at, le-leb (get_or starts x 0) t low))
      go (yes at) (no high) = inl (rw (eq-eqb (home x) (suc p) at, lt-leb (get_or starts x 0) t (omega arith)))
      go (no else) d = inl (rw (ne_eqb (home x) (suc p) else))

module _ (tree : Tree) (sound : Sound tree) (class_of : ℕ → ℕ) where
  -- ── a row without a head chooses ──

  module _ (why : Why) (p : ℕ) (inner : Inner tree p) (a : Rows) (f : Forest) (none : head a p ≡ 0) (old : Heaped tree class_of a 0 f) where
    few : p < most_rows
    few = omega (arith, inner.inside, sound.few_rows)

    -- a child of p with a head waits to be taken, since p has none
    kid_untaken : (x : ℕ) → Kid tree p x → head a x ≢ 0 → Untaken tree a x
    kid_untaken x kid has =
        record { positive = kid.positive; inside = kid.inside; has = has; other = λ e. has (e ∙ ap (head a) kid.under ∙ none) }

    untaken_kid : (x : ℕ) → Untaken tree a x → parent tree x ≡ p → Kid tree p x
    untaken_kid x wait under = record { positive = wait.positive; inside = wait.inside; under = under }

    kid_home : (x : ℕ) → Kid tree p x → head a x ≢ 0 → (old.home x ≡ suc p) ⊎ ((old.home x ≡ suc (eligible_heap p)) × (start a x ≤ virtual a p))
    kid_home x kid has = rw (← kid.under) (old.at_home x (kid_untaken x kid has) (λ e. omega (arith, kid.positive)))

    -- who is in a heap of p is a child of p
    in_heap : (x h : ℕ) → old.home x ≡ suc h → (h ≡ p) ⊎ (h ≡ eligible_heap p) → Kid tree p x × (head a x ≢ 0)
    in_heap x h at which =
        let was = (old.filed x (λ e. omega arith)).0 in
        let near = old.at_home x was (λ e. omega (arith, was.positive)) in
        let low = its_parent tree sound x was.positive was.inside in
        let few_above = (parent_is_inner tree sound (parent tree x) x low).inside in (
          untaken_kid x was (⊎_elim (λ late. ⊎_elim (λ one. omega arith) (λ two. absurd (omega (arith, sound.few_rows))) which)
              (λ soon. ⊎_elim (λ one. absurd (omega (arith, soon.0, sound.few_rows))) (λ two. omega (arith, soon.0)) which) near),
          was.has,
        )

    here : Here tree a p old.home
    here =
        record {
          in_heap = λ x inside wait.
              let kid = waits_kid tree a p x inside wait in
              ⊎_elim (λ late. inl late) (λ soon. inr soon.0) (kid_home x kid.0 kid.1);
          waiting = λ x at. let kid = in_heap x p at (inl refl) in (kid.0.inside, kid_waits tree a p x kid.0 kid.1);
          eligible = λ x at.
              let kid = in_heap x (eligible_heap p) at (inr refl) in (
                kid.0.inside,
                kid_waits tree a p x kid.0 kid.1,
                ⊎_elim (λ late. absurd (omega arith)) (λ soon. soon.1) (kid_home x kid.0 kid.1),
              );
          apart = λ x y x_in y_in one two same.
              let first = waits_kid tree a p x x_in one in
              named_apart tree sound class_of a old.named p x y first.0 (waits_kid tree a p y y_in two).0 first.1 same;
        }

    abbrev b : Rows
    b = chooses tree why p a

    same : (j : ℕ) → j ≢ p → SameRow a b j
    same j apart = chooses_elsewhere tree sound why p inner a old.full j apart

    head_as : (j : ℕ) → j ≢ p → head b j ≡ head a j
    head_as j apart = (same j apart).kid.head_same.packet_same

    abbrev k : ℕ
    k = pick tree a p

    abbrev What : Type 0
    What = ((k ≡ 0) × Nobody tree a b p) ⊎ Picks tree sound why p inner a old.full

    what : What
    what = chooses_picked tree sound why p inner a old.full

    abbrev home : ℕ → ℕ
    home = chosen_home a.starts p (raised tree a p) k old.home

    -- the child that is taken
    taken_kid : Picks tree sound why p inner a old.full → Kid tree p k
    taken_kid picks = picks.taken.pick.kid

    taken_head : (picks : Picks tree sound why p inner a old.full) → head b p ≡ head a k
    taken_head picks = picks.taken.pick.takes.packet_same ∙ head_as k (kid_apart tree sound p k (taken_kid picks))

    later : What → virtual a p ≤ virtual b p
    later (inl nobody) = omega (arith, nobody.1.virtual_same)
    later (inr picks) = let pick = picks.taken.pick in omega (arith, pick.rises, pick.passes)

    owned : Owned tree b p
    owned q x kid some = go (ℕ_discrete q p) what
      where
        go : Dec (q ≡ p) → What → (t : ℕ) × Kid tree q t × (t ≢ p) × (head b t ≡ head b q)
        go (yes e) (inl nobody) = absurd (some (ap (head b) e ∙ nobody.1.no_head))
        go (yes e) (inr picks) =
            let its = taken_kid picks in
            let apart = kid_apart tree sound p k its in
            (k, subst (λ (i : ℕ). Kid tree i k) (sym e) its, apart, head_as k apart ∙ sym (taken_head picks) ∙ ap (head b) (sym e))
        go (no apart) w =
            let has : head a q ≢ 0 = λ e. some (head_as q apart ∙ e) in
            let (t, kid_t, not_aside, own) = old.owned q x kid has in
            let t_apart : t ≢ p = λ e. has (sym own ∙ ap (head a) e ∙ none) in
            (t, kid_t, t_apart, head_as t t_apart ∙ own ∙ sym (head_as q apart))

    filed : (x : ℕ) → home x ≢ 0 → Untaken tree b x × (x ≢ p)
    filed x at =
        let still = chosen_some a.starts p (raised tree a p) k old.home x at in
        let was = (old.filed x still.1).0 in
        let apart : x ≢ p = λ e. was.has (ap (head a) e ∙ none) in
        (go still.0 was apart (ℕ_discrete (parent tree x) p) what, apart)
      where
        go : x ≢ k → Untaken tree a x → x ≢ p → Dec (parent tree x ≡ p) → What → Untaken tree b x
        go differ was apart (no above) w = untaken_as tree a b x (head_as x apart) (head_as (parent tree x) above) was
        go differ was apart (yes under) (inl nobody) = absurd (was.has (nobody.1.none x (untaken_kid x was under)))
        go differ was apart (yes under) (inr picks) =
            record {
              positive = was.positive;
              inside = was.inside;
              has = λ e. was.has (sym (head_as x apart) ∙ e);
              other = λ e.
                  let one : head a x ≡ head a k = sym (head_as x apart) ∙ e ∙ ap (head b) under ∙ taken_head picks in
                  differ (named_apart tree sound class_of a old.named p x k (untaken_kid x was under) (taken_kid picks) was.has one);
            }

    abbrev Home : ℕ → Type 0
    Home x = (home x ≡ suc (parent tree x)) ⊎ ((home x ≡ suc (eligible_heap (parent tree x))) × (start b x ≤ virtual b (parent tree x)))

    at_home : (x : ℕ) → Untaken tree b x → x ≢ p → Home x
    at_home x now apart = go (ℕ_discrete (parent tree x) p)
      where
        own : SameRow a b x
        own = same x apart

        has : head a x ≢ 0
        has e = now.has (head_as x apart ∙ e)

        kid : parent tree x ≡ p → Kid tree p x
        kid under = record { positive = now.positive; inside = now.inside; under = under }

        not_taken : What → x ≢ k
        not_taken (inl nobody) e = omega (arith, now.positive, nobody.0)
        not_taken (inr picks) e =
            now.other
            (head_as x apart ∙ ap (head a) e ∙ sym (taken_head picks) ∙ ap (head b) (sym (ap (parent tree) e ∙ (taken_kid picks).under)))

        elsewhere : (old.home x ≡ suc p → ⊥) → home x ≡ old.home x
        elsewhere else =
            ⊎_elim (λ e. e) (λ ripe. absurd (else ripe.0)) (chosen_other a.starts p (raised tree a p) k old.home x (not_taken what))

        -- at another row nothing has changed
        other : parent tree x ≢ p → Home x
        other above =
            let up = same (parent tree x) above in
            let was = untaken_as tree b a x (sym (head_as x apart)) (sym up.kid.head_same.packet_same) now in
            let parent_few = (parent_is_inner tree sound (parent tree x) x (its_parent tree sound x now.positive now.inside)).inside in
            ⊎_elim (λ late. inl (elsewhere (λ e. above (omega arith)) ∙ late))
            (λ soon. inr (elsewhere (λ e. omega (arith, soon.0, few)) ∙ soon.0, omega (arith, soon.1, own.kid.start_same, up.virtual_same)))
            (old.at_home x was (λ e. omega (arith, now.positive)))

        -- at p those that have started by now have become eligible
        started : What → parent tree x ≡ p → start a x ≤ raised tree a p → start b x ≤ virtual b p
        started (inl nobody) under low = absurd (has (nobody.1.none x (kid under)))
        started (inr picks) under low = omega (arith, own.kid.start_same, picks.passed)

        mine : parent tree x ≡ p → Home x
        mine under =
            rw under
            (⊎_elim
            (λ late. ⊎_elim (λ e. inl (e ∙ late)) (λ ripe. inr (ripe.2, started what under ripe.1))
            (chosen_other a.starts p (raised tree a p) k old.home x (not_taken what)))
            (λ soon. inr (elsewhere (λ e. omega (arith, soon.0, few)) ∙ soon.0, omega (arith, soon.1, own.kid.start_same, later what)))
            (kid_home x (kid under) has))

        go : Dec (parent tree x ≡ p) → Home x
        go (yes under) = mine under
        go (no above) = other above

    -- then p is aside
    pub chosen :
        Heaped tree class_of (chooses tree why p a) p (rest_of a.starts a.finishes a.heads p (virtual a p) f)
    chosen =
        record {
          full = chooses_full tree sound why p inner a old.full;
          named = chooses_named tree sound class_of why p inner a old.full old.named;
          owned = owned;
          home = home;
          heaps =
              heaps_after a b _ home (λ x at. same x (filed x at).1) (rest_heaps tree a p few f old.home old.heaps here);
          filed = filed;
          at_home = at_home;
        }

    -- and the heaps have told which
    pub chosen_time : time_of a.starts p (virtual a p) f ≡ raised tree a p
    chosen_time = time_right tree a p few f old.home old.heaps here

    pub chosen_child : child_of a.starts a.finishes a.heads p (virtual a p) f ≡ pick tree a p
    chosen_child = child_right tree a p few f old.home old.heaps here
