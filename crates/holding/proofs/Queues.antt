-- What each class's queue begins with, one packet more at a time.
-- Assumes nothing.
use Prim.Native.Nat.{ℕ, suc, ◌+◌, ◌≤◌, ◌<◌}
use mathlib.Core.Path.{◌≡◌, refl, sym, ap, ◌∙◌}
use mathlib.Core.Bool.{Bool, true, false, cond}
use mathlib.Core.List.{List, [], ◌∷◌, ◌++◌, append-nil}
use native.Mathlib.Decide.{ℕ_discrete}
use native.Mathlib.Omega.{arith}
use native.Mathlib.Numerals.{add-one}
use borrow.Author.Tests.{eq-eqb, ne_eqb}
use lib.Dec.{eqb}
use lib.ListN.{length, get_or, set, length-set, length-append, get_or-replicate, length-replicate, replicate}
use lib.Seq.{get_or-set_same, get_or-set_other}
use Rattle.input.specs.Limits.{most_rows}
use Rattle.rules.specs.Box.{Packet}
use Rattle.live_rules.specs.State.{Held, queue, packets_at}
use Rattle.holding.specs.Packets.{class_at, length_at, name_at, packet_at, first_word, first_size, Tallied}

-- ── a queue with one packet more ──

unfoldable own : Held → ℕ → List Packet
own p k = cond (eqb p.class k) (record { place = p.name; length = p.length } ∷ []) []

queue_more : (ps : List Held) (p : Held) (k : ℕ) → queue (ps ++ p ∷ []) k ≡ queue ps k ++ own p k
unfolding queue own
queue_more [] p k = refl
queue_more (q ∷ ps) p k = go (eqb q.class k) (queue_more ps p k)
  where
    go :
        (b : Bool) → queue (ps ++ p ∷ []) k ≡ queue ps k ++ own p k
        → cond b (record { place = q.name; length = q.length } ∷ queue (ps ++ p ∷ []) k) (queue (ps ++ p ∷ []) k)
        ≡ cond b (record { place = q.name; length = q.length } ∷ queue ps k) (queue ps k) ++ own p k
    go true later = ap (λ (l : List Packet). record { place = q.name; length = q.length } ∷ l) later
    go false later = later

-- what the first of a queue is, by whether there was one before
first_more :
    (f : List Packet → ℕ) (x : Packet) (q : List Packet) → ((y : Packet) (later : List Packet) → f (y ∷ later) ≡ f (y ∷ []))
    → f (q ++ x ∷ []) ≡ cond (eqb (length q) 0) (f (x ∷ [])) (f q)
first_more f x [] alike = refl
first_more f x (y ∷ q) alike = alike y (q ++ x ∷ []) ∙ sym (alike y q) ∙ rw (ne_eqb (suc (length q)) 0 (λ e. omega arith))

-- ── the three lists ──

-- with what the code knows of their lengths and of how large a count can be
pub record Tally (words : List ℕ) (i : ℕ) (counts firsts sizes : List ℕ) : Type 0 where
  pub long : length counts ≡ most_rows
  pub long_firsts : length firsts ≡ most_rows
  pub long_sizes : length sizes ≡ most_rows
  pub few : (k : ℕ) → k < most_rows → get_or counts k 0 ≤ i
  pub told : Tallied (packets_at i words) counts firsts sizes

-- nothing is told of no packets
pub tally_none : (words : List ℕ) → Tally words 0 (replicate most_rows 0) (replicate most_rows 0) (replicate most_rows 0)
unfolding packets_at queue first_word first_size
tally_none words =
    record {
      long = length-replicate {A = ℕ} most_rows 0;
      long_firsts = length-replicate {A = ℕ} most_rows 0;
      long_sizes = length-replicate {A = ℕ} most_rows 0;
      few = λ k below. omega (arith, get_or-replicate {A = ℕ} most_rows k 0 0 below);
      told =
          record {
            count = λ k below. get_or-replicate {A = ℕ} most_rows k 0 0 below;
            first = λ k below. get_or-replicate {A = ℕ} most_rows k 0 0 below;
            size = λ k below. get_or-replicate {A = ℕ} most_rows k 0 0 below;
          };
    }

-- an entry of a list in which one is set
entry : (xs : List ℕ) (j v k : ℕ) → length xs ≡ most_rows → j < most_rows → get_or (set xs j v) k 0 ≡ cond (eqb j k) v (get_or xs k 0)
entry xs j v k long inside = go (ℕ_discrete j k)
  where
    go : Dec (j ≡ k) → get_or (set xs j v) k 0 ≡ cond (eqb j k) v (get_or xs k 0)
    go (yes same) = rw (same, eq-eqb k k refl) (get_or-set_same xs k v 0 (omega arith))
    go (no other) = rw (ne_eqb j k other) (get_or-set_other xs j k v 0 (λ e. other (sym e)))

-- a list that keeps a number of each queue's first, once a packet x has come for row j
joined :
    (f : List Packet → ℕ) → ((y : Packet) (later : List Packet) → f (y ∷ later) ≡ f (y ∷ [])) → (q : ℕ → List Packet) (cs xs : List ℕ) (x : Packet)
    (j k : ℕ) → get_or cs j 0 ≡ length (q j) → get_or xs j 0 ≡ f (q j) → get_or xs k 0 ≡ f (q k) → Dec (j ≡ k)
    → cond (eqb j k) (cond (eqb (get_or cs j 0) 0) (f (x ∷ [])) (get_or xs j 0)) (get_or xs k 0) ≡ f (q k ++ cond (eqb j k) (x ∷ []) [])
joined f alike q cs xs x j k count here there (yes same) =
    rw (← same, eq-eqb j j refl, count, here) (sym (first_more f x (q j) alike))
joined f alike q cs xs x j k count here there (no other) = rw (ne_eqb j k other) (there ∙ ap f (sym (append-nil (q k))))

-- the list of counts
counted :
    (q : ℕ → List Packet) (cs : List ℕ) (x : Packet) (j k : ℕ) → get_or cs j 0 ≡ length (q j) → get_or cs k 0 ≡ length (q k) → Dec (j ≡ k)
    → cond (eqb j k) (get_or cs j 0 + 1) (get_or cs k 0) ≡ length (q k ++ cond (eqb j k) (x ∷ []) [])
counted q cs x j k here there (yes same) = rw (← same, eq-eqb j j refl, here) (sym (length-append (q j) (x ∷ [])))
counted q cs x j k here there (no other) = rw (ne_eqb j k other) (there ∙ ap length (sym (append-nil (q k))))

few_more : (c : Bool) (a b i : ℕ) → a ≤ i → b ≤ i → cond c (a + 1) b ≤ i + 1
few_more true a b i one other = omega arith
few_more false a b i one other = omega arith

-- the packet at a place as its queue has it
abbrev arrived : List ℕ → ℕ → Packet
arrived words i = record { place = name_at words i; length = length_at words i }

more :
    (words : List ℕ) (i j k : ℕ) → j ≡ class_at words i
    → queue (packets_at i words) k ++ cond (eqb j k) (arrived words i ∷ []) [] ≡ queue (packets_at (i + 1) words) k
unfolding packets_at own
more words i j k same = rw (same, add-one i) (sym (queue_more (packets_at i words) (packet_at words i) k))

module _ (words : List ℕ) (i : ℕ) (counts firsts sizes : List ℕ) (t : Tally words i counts firsts sizes) where
  -- row j's packet is entered
  pub tally_more :
      (j v w : ℕ) → j < most_rows → j ≡ class_at words i → v ≡ cond (eqb (get_or counts j 0) 0) (name_at words i + 1) (get_or firsts j 0)
      → w ≡ cond (eqb (get_or counts j 0) 0) (length_at words i) (get_or sizes j 0)
      → Tally words (i + 1) (set counts j (get_or counts j 0 + 1)) (set firsts j v) (set sizes j w)
  unfolding first_word first_size
  tally_more j v w inside own_class first_so size_so =
      let q = queue (packets_at i words) in
      let x = arrived words i in
      let first_new : v ≡ cond (eqb (get_or counts j 0) 0) (first_word (x ∷ [])) (get_or firsts j 0) = rw (← add-one (name_at words i)) first_so in
      record {
        long = length-set counts j (get_or counts j 0 + 1) ∙ t.long;
        long_firsts = length-set firsts j v ∙ t.long_firsts;
        long_sizes = length-set sizes j w ∙ t.long_sizes;
        few =
            λ k below.
            rw (entry counts j (get_or counts j 0 + 1) k t.long inside)
            (few_more (eqb j k) (get_or counts j 0) (get_or counts k 0) i (t.few j inside) (t.few k below));
        told =
            record {
              count =
                  λ k below.
                  entry counts j (get_or counts j 0 + 1) k t.long inside
                  ∙ counted q counts x j k (t.told.count j inside) (t.told.count k below) (ℕ_discrete j k)
                  ∙ ap length (more words i j k own_class);
              first =
                  λ k below.
                  entry firsts j v k t.long_firsts inside
                  ∙ ap (λ (v : ℕ). cond (eqb j k) v (get_or firsts k 0)) first_new
                  ∙ joined first_word (λ y later. refl) q counts firsts x j k (t.told.count j inside) (t.told.first j inside) (t.told.first k below) (ℕ_discrete j k)
                  ∙ ap first_word (more words i j k own_class);
              size =
                  λ k below.
                  entry sizes j w k t.long_sizes inside
                  ∙ ap (λ (v : ℕ). cond (eqb j k) v (get_or sizes k 0)) size_so
                  ∙ joined first_size (λ y later. refl) q counts sizes x j k (t.told.count j inside) (t.told.size j inside) (t.told.size k below) (ℕ_discrete j k)
                  ∙ ap first_size (more words i j k own_class);
            };
      }
