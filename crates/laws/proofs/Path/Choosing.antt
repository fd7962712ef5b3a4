-- Choosing at one row: which child it takes, what it writes, and that it writes nothing elsewhere.
-- Assumes nothing.
use Prim.Native.Nat.{ℕ, ◌+◌, ◌*◌, ◌≤◌, ◌<◌, max}
use mathlib.Core.Path.{◌≡◌, refl, sym, ◌∙◌}
use mathlib.Core.Logic.{◌≢◌, ◌⊎◌, inl, inr, ⊎_elim}
use mathlib.Core.Bool.{true, false, and-eq-true_iff}
use native.Mathlib.Decide.{ℕ_discrete, dec_le}
use native.Mathlib.Omega.{arith}
use lib.Dec.{leb}
use lib.Seq.{get_or-set_other}
use borrow.Author.Tests.{leb-true, le-leb, eq-eqb, ne_eqb}
use Rattle.input.specs.Limits.{most_rows, ticks}
use Rattle.input.specs.Shares.{charge}
use Rattle.input.specs.Classes.{Tree, parent, share, child}
use Rattle.rules.specs.Box.{Rows, start, finish, virtual, head, head_length, head_class, has_head}
use Rattle.rules.specs.Steps.{with_head, with_virtual, new_head, next_start, least, waits, eligible, takes, chooses}
use Rattle.rules.specs.Steps.{charged as charges, raised as risen, pick as picked}
use Rattle.rules.specs.declared.Why.{Why}
use Rattle.rules.specs.declared.Why.TheVariants.{Finished, Arrived}
use Rattle.laws.specs.Sound.{Sound, Kid, Inner}
use Rattle.laws.specs.Moves.{Full, SameHead, SameKid, SameRow, Pick}
use Rattle.laws.proofs.Path.Tests.{both_ways}
use Rattle.laws.proofs.Level.Heads.{has_true, some_has}
use Rattle.laws.proofs.Tree.Paths.{kid_child, child_kid, its_parent, kid_apart}
use Rattle.laws.proofs.Path.Least.{Best, Found, found}
use Rattle.laws.proofs.Path.Writing.{Wrote, written, wrote_full, wrote_elsewhere, wrote_both}
use Rattle.laws.proofs.Path.Writing.{with_head_wrote, with_virtual_wrote, new_head_wrote}

-- ── a row other than the root with a new head ──

module _ (tree : Tree) (sound : Sound tree) (why : Why) (r packet length class : ℕ) (inside : r < tree.rows) (x : Rows) (full : Full x) where
  pub new_head_full : Full (new_head tree why r packet length class x)
  new_head_full = wrote_full (new_head_wrote tree why r packet length class x) full

  pub new_head_elsewhere : (j : ℕ) → j ≢ r → SameRow x (new_head tree why r packet length class x) j
  new_head_elsewhere j apart = wrote_elsewhere (new_head_wrote tree why r packet length class x) j apart

  pub new_head_here :
      (head (new_head tree why r packet length class x) r ≡ packet) × (head_length (new_head tree why r packet length class x) r ≡ length)
      × (head_class (new_head tree why r packet length class x) r ≡ class)
      × (start (new_head tree why r packet length class x) r ≡ next_start tree why r x)
      × (finish (new_head tree why r packet length class x) r ≡ next_start tree why r x + charge length (share tree r))
      × (virtual (new_head tree why r packet length class x) r ≡ virtual x r)
  unfolding new_head with_head charges
  new_head_here =
      let few : r < most_rows = omega (arith, sound.few_rows) in (
        written x.heads r packet full.heads_full few,
        written x.head_lengths r length full.head_lengths_full few,
        written x.head_classes r class full.head_classes_full few,
        written x.starts r (next_start tree why r x) full.starts_full few,
        written x.finishes r (next_start tree why r x + charge length (share tree r)) full.finishes_full few,
        refl,
      )

-- ── choosing at an inner row ──

-- no child of p has a head: p has none, and its tags stay
pub record Nobody (tree : Tree) (x y : Rows) (p : ℕ) : Type 0 where
  pub none : (j : ℕ) → Kid tree p j → head x j ≡ 0
  pub no_head : head y p ≡ 0
  pub no_length : head_length y p ≡ 0
  pub virtual_same : virtual y p ≡ virtual x p
  pub start_same : start y p ≡ start x p
  pub finish_same : finish y p ≡ finish x p

-- p takes its child k, and is charged, if it is not the root
pub record Somebody (tree : Tree) (why : Why) (x y : Rows) (p k : ℕ) : Type 0 where
  pub pick : Pick tree x y p k
  pub charged : 0 < p → (start y p ≡ next_start tree why p x) × (finish y p ≡ start y p + charge (head_length y p) (share tree p))
  pub root : p ≡ 0 → (start y p ≡ start x p) × (finish y p ≡ finish x p)

-- a child with a head, as the rules test it
module _ (tree : Tree) (x : Rows) (p : ℕ) where
  pub waits_root : waits tree x p 0 ≡ false
  unfolding waits child
  waits_root = refl

  pub kid_waits : (j : ℕ) → Kid tree p j → head x j ≢ 0 → waits tree x p j ≡ true
  unfolding waits
  kid_waits j kid some = rw (kid_child tree p j kid, some_has x j some)

  pub waits_kid : (j : ℕ) → j < tree.rows → waits tree x p j ≡ true → Kid tree p j × (head x j ≢ 0)
  unfolding waits
  waits_kid j inside is =
      let parts = (and-eq-true_iff (child tree p j) (has_head x j)).0 is in
      (child_kid tree p j inside parts.0, has_true x j parts.1)

  pub eligible_root : (v : ℕ) → eligible tree x p v 0 ≡ false
  unfolding eligible
  eligible_root v = rw waits_root

  pub in_time_eligible : (v j : ℕ) → waits tree x p j ≡ true → start x j ≤ v → eligible tree x p v j ≡ true
  unfolding eligible
  in_time_eligible v j wait early = rw (wait, le-leb (start x j) v early)

  pub eligible_in_time : (v j : ℕ) → eligible tree x p v j ≡ true → (waits tree x p j ≡ true) × (start x j ≤ v)
  unfolding eligible
  eligible_in_time v j is =
      let parts = (and-eq-true_iff (waits tree x p j) (leb (start x j) v)).0 is in
      (parts.0, leb-true (start x j) v parts.1)

  -- the waiting child with the least start, and how far the virtual time rises to it
  abbrev first : ℕ
  first = least (waits tree x p) (start x) (head x) tree.rows

  first_found : Found (waits tree x p) (start x) (head x) (λ j. j < tree.rows) first
  first_found = found (waits tree x p) (start x) (head x) waits_root tree.rows

  risen_none : first ≡ 0 → risen tree x p ≡ virtual x p
  unfolding risen
  risen_none none = rw (eq-eqb first 0 none)

  risen_some : first ≢ 0 → risen tree x p ≡ max (virtual x p) (start x first)
  unfolding risen
  risen_some some = rw (ne_eqb first 0 some)

  rises : virtual x p ≤ risen tree x p
  rises = go (ℕ_discrete first 0)
    where
      go : Dec (first ≡ 0) → virtual x p ≤ risen tree x p
      go (yes none) = omega (arith, risen_none none)
      go (no some) = omega (arith, risen_some some)

  no_further : (risen tree x p ≡ virtual x p) ⊎ ((j : ℕ) → Kid tree p j → head x j ≢ 0 → risen tree x p ≤ start x j)
  no_further = go first_found (dec_le (start x first) (virtual x p))
    where
      go :
          Found (waits tree x p) (start x) (head x) (λ j. j < tree.rows) first → Dec (start x first ≤ virtual x p)
          → (risen tree x p ≡ virtual x p) ⊎ ((j : ℕ) → Kid tree p j → head x j ≢ 0 → risen tree x p ≤ start x j)
      go (inl f) d = inl (risen_none f.0)
      go (inr f) (yes low) = inl (omega (arith, risen_some f.0))
      go (inr f) (no high) = inr λ j kid some. omega (arith, risen_some f.0, (f.1.2 j kid.inside (kid_waits j kid some)).by_key)

  -- where a child has a head, one is eligible: that with the least start
  pub none_waiting :
      ((j : ℕ) → j < tree.rows → eligible tree x p (risen tree x p) j ≡ false) → (j : ℕ) → Kid tree p j → head x j ≡ 0
  none_waiting none j kid = go (ℕ_discrete (head x j) 0) first_found
    where
      go : Dec (head x j ≡ 0) → Found (waits tree x p) (start x) (head x) (λ j. j < tree.rows) first → head x j ≡ 0
      go (yes e) f = e
      go (no some) (inl f) = both_ways (waits tree x p j) (head x j ≡ 0) (f.1 j kid.inside) (kid_waits j kid some)
      go (no some) (inr f) =
          both_ways (eligible tree x p (risen tree x p) first) (head x j ≡ 0) (none first f.1.0)
          (in_time_eligible (risen tree x p) first f.1.1 (omega (arith, risen_some f.0)))

-- row p's virtual time has passed over its child k's packet
abbrev over : Tree → ℕ → Rows → ℕ → Rows
over tree p x k = with_virtual p (risen tree x p + ticks * head_length x k) x

-- what taking the child k writes in row p
record Took (tree : Tree) (why : Why) (p k : ℕ) (x y : Rows) : Type 0 where
  wrote : Wrote p x y
  took_head : SameHead x k y p
  passed : virtual y p ≡ risen tree x p + ticks * head_length x k
  took_charged : 0 < p → (start y p ≡ next_start tree why p x) × (finish y p ≡ start y p + charge (head_length y p) (share tree p))
  took_root : p ≡ 0 → (start y p ≡ start x p) × (finish y p ≡ finish x p)

module _ (tree : Tree) (why : Why) (p : ℕ) (x : Rows) where
  chooses_none : picked tree x p ≡ 0 → chooses tree why p x ≡ with_head p 0 0 0 x
  unfolding chooses
  chooses_none none = rw (eq-eqb (picked tree x p) 0 none)

  chooses_some : picked tree x p ≢ 0 → chooses tree why p x ≡ takes tree why p (picked tree x p) x
  unfolding chooses
  chooses_some some = rw (ne_eqb (picked tree x p) 0 some)

  takes_root : (k : ℕ) → p ≡ 0 → takes tree why p k x ≡ with_head p (head x k) (head_length x k) (head_class x k) (over tree p x k)
  unfolding takes
  takes_root k root = rw (eq-eqb p 0 root)

  takes_below : (k : ℕ) → p ≢ 0 → takes tree why p k x ≡ new_head tree why p (head x k) (head_length x k) (head_class x k) (over tree p x k)
  unfolding takes
  takes_below k below = rw (ne_eqb p 0 below)

-- p's own virtual time plays no part in p's start
same_start :
    (tree : Tree) (sound : Sound tree) (why : Why) (p v : ℕ) (x : Rows) → 0 < p → p < tree.rows
    → next_start tree why p (with_virtual p v x) ≡ next_start tree why p x
unfolding next_start with_virtual
same_start tree sound Finished p v x positive inside = refl
same_start tree sound Arrived p v x positive inside =
    let apart = kid_apart tree sound (parent tree p) p (its_parent tree sound p positive inside) in
    rw (get_or-set_other x.virtuals p (parent tree p) v 0 (λ e. apart (sym e)))

module _ (tree : Tree) (sound : Sound tree) (why : Why) (p : ℕ) (inner : Inner tree p) (x : Rows) (full : Full x) where
  few : p < most_rows
  few = omega (arith, inner.inside, sound.few_rows)

  over_passed : (k : ℕ) → virtual (over tree p x k) p ≡ risen tree x p + ticks * head_length x k
  unfolding with_virtual
  over_passed k = written x.virtuals p (risen tree x p + ticks * head_length x k) full.virtuals_full few

  over_wrote : (k : ℕ) → Wrote p x (over tree p x k)
  over_wrote k = with_virtual_wrote p x (risen tree x p + ticks * head_length x k)

  root_took : (k : ℕ) → p ≡ 0 → Took tree why p k x (with_head p (head x k) (head_length x k) (head_class x k) (over tree p x k))
  unfolding with_head with_virtual
  root_took k root =
      record {
        wrote = wrote_both (over_wrote k) (with_head_wrote p (over tree p x k) (head x k) (head_length x k) (head_class x k));
        took_head =
            record {
              packet_same = written x.heads p (head x k) full.heads_full few;
              length_same = written x.head_lengths p (head_length x k) full.head_lengths_full few;
              class_same = written x.head_classes p (head_class x k) full.head_classes_full few;
            };
        passed = over_passed k;
        took_charged = λ positive. absurd (omega arith);
        took_root = λ e. (refl, refl);
      }

  below_took : (k : ℕ) → p ≢ 0 → Took tree why p k x (new_head tree why p (head x k) (head_length x k) (head_class x k) (over tree p x k))
  below_took k below =
      let over_full = wrote_full (over_wrote k) full in
      let here = new_head_here tree sound why p (head x k) (head_length x k) (head_class x k) inner.inside (over tree p x k) over_full in
      record {
        wrote = wrote_both (over_wrote k) (new_head_wrote tree why p (head x k) (head_length x k) (head_class x k) (over tree p x k));
        took_head = record { packet_same = here.0; length_same = here.1; class_same = here.2 };
        passed = here.5 ∙ over_passed k;
        took_charged = λ positive.
            let same = same_start tree sound why p (risen tree x p + ticks * head_length x k) x positive inner.inside in
            (here.3 ∙ same, rw (here.3, here.1) here.4);
        took_root = λ root. absurd (below root);
      }

  takes_took : (k : ℕ) → Took tree why p k x (takes tree why p k x)
  takes_took k = go (ℕ_discrete p 0)
    where
      go : Dec (p ≡ 0) → Took tree why p k x (takes tree why p k x)
      go (yes root) = rw (takes_root tree why p x k root) (root_took k root)
      go (no below) = rw (takes_below tree why p x k below) (below_took k below)

  chooses_wrote : Wrote p x (chooses tree why p x)
  chooses_wrote = go (ℕ_discrete (picked tree x p) 0)
    where
      go : Dec (picked tree x p ≡ 0) → Wrote p x (chooses tree why p x)
      go (yes none) = rw (chooses_none tree why p x none) (with_head_wrote p x 0 0 0)
      go (no some) = rw (chooses_some tree why p x some) (takes_took (picked tree x p)).wrote

  pub chooses_full : Full (chooses tree why p x)
  chooses_full = wrote_full chooses_wrote full

  pub chooses_elsewhere : (j : ℕ) → j ≢ p → SameRow x (chooses tree why p x) j
  chooses_elsewhere j apart = wrote_elsewhere chooses_wrote j apart

  nobody : ((j : ℕ) → Kid tree p j → head x j ≡ 0) → Nobody tree x (with_head p 0 0 0 x) p
  unfolding with_head
  nobody none =
      record {
        none = none;
        no_head = written x.heads p 0 full.heads_full few;
        no_length = written x.head_lengths p 0 full.head_lengths_full few;
        virtual_same = refl;
        start_same = refl;
        finish_same = refl;
      }

  -- what p goes by, its children's heads and tags, is the same before and after
  somebody :
      (k : ℕ) (y : Rows) → Took tree why p k x y → Best (eligible tree x p (risen tree x p)) (finish x) (head x) (λ j. j < tree.rows) k
      → Somebody tree why x y p k
  somebody k y took best =
      record {
        pick =
            record {
              kid = kid;
              waiting = λ e. wait.1 (sym own.head_same.packet_same ∙ e);
              raised = risen tree x p;
              rises = rises tree x p;
              no_further = further (no_further tree x p);
              in_time = omega (arith, own.start_same, test.1);
              least = λ j other some early.
                  let its = same j other in
                  let its_wait = kid_waits tree x p j other (λ e. some (its.head_same.packet_same ∙ e)) in
                  let its_test = in_time_eligible tree x p (risen tree x p) j its_wait (omega arith) in
                  omega (arith, own.finish_same, (best.2 j other.inside its_test).by_key);
              passes = rw own.head_same.length_same took.passed;
              takes = record {
                packet_same = took.took_head.packet_same ∙ sym own.head_same.packet_same;
                length_same = took.took_head.length_same ∙ sym own.head_same.length_same;
                class_same = took.took_head.class_same ∙ sym own.head_same.class_same;
              };
            };
        charged = took.took_charged;
        root = took.took_root;
      }
    where
      same : (j : ℕ) → Kid tree p j → SameKid x y j
      same j kid = (wrote_elsewhere took.wrote j (kid_apart tree sound p j kid)).kid

      further :
          (risen tree x p ≡ virtual x p) ⊎ ((j : ℕ) → Kid tree p j → head x j ≢ 0 → risen tree x p ≤ start x j)
          → (risen tree x p ≡ virtual x p) ⊎ ((j : ℕ) → Kid tree p j → head y j ≢ 0 → risen tree x p ≤ start y j)
      further (inl e) = inl e
      further (inr all) = inr λ j kid some.
          let its = same j kid in
          omega (arith, all j kid (λ e. some (its.head_same.packet_same ∙ e)))

      test : (waits tree x p k ≡ true) × (start x k ≤ risen tree x p)
      test = eligible_in_time tree x p (risen tree x p) k best.1

      wait : Kid tree p k × (head x k ≢ 0)
      wait = waits_kid tree x p k best.0 test.0

      kid : Kid tree p k
      kid = wait.0

      own : SameKid x y k
      own = same k kid

  -- the same by the child that is picked: p's virtual time rises and passes over it
  pub record Picks : Type 0 where
    pub some : picked tree x p ≢ 0
    pub taken : Somebody tree why x (chooses tree why p x) p (picked tree x p)
    pub passed : virtual (chooses tree why p x) p ≡ risen tree x p + ticks * head_length x (picked tree x p)

  pub chooses_picked : ((picked tree x p ≡ 0) × Nobody tree x (chooses tree why p x) p) ⊎ Picks
  unfolding picked
  chooses_picked = go (found (eligible tree x p (risen tree x p)) (finish x) (head x) (eligible_root tree x p (risen tree x p)) tree.rows)
    where
      go :
          Found (eligible tree x p (risen tree x p)) (finish x) (head x) (λ j. j < tree.rows) (picked tree x p)
          → ((picked tree x p ≡ 0) × Nobody tree x (chooses tree why p x) p) ⊎ Picks
      go (inl f) = inl (f.0, rw (chooses_none tree why p x f.0) (nobody (none_waiting tree x p f.1)))
      go (inr f) =
          let k = picked tree x p in
          let took = takes_took k in
          inr (record {
            some = f.0;
            taken = rw (chooses_some tree why p x f.0) (somebody k (takes tree why p k x) took f.1);
            passed = rw (chooses_some tree why p x f.0) took.passed;
          })

  pub chooses_what : Nobody tree x (chooses tree why p x) p ⊎ ((k : ℕ) × Somebody tree why x (chooses tree why p x) p k)
  chooses_what = ⊎_elim (λ none. inl none.1) (λ some. inr (picked tree x p, some.taken)) chooses_picked
