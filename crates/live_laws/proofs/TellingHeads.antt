-- What rows hold and which heads they have: the tests of it say what a well-kept box has, and no more.
-- Assumes nothing.
use Prim.Native.Nat.{ℕ, zero, suc, ◌≤◌, ◌<◌}
use mathlib.Core.Path.{◌≡◌, refl, sym, ap, subst, ◌∙◌}
use mathlib.Core.Logic.{◌≢◌, ⊎_elim}
use mathlib.Core.Bool.{Bool, true, cond}
use mathlib.Core.List.{List, [], ◌∷◌}
use native.Mathlib.Decide.{ℕ_discrete}
use native.Mathlib.Omega.{arith}
use lib.Dec.{eqb}
use lib.ListN.{length, get_or}
use borrow.Author.Tests.{eqb-true, eq-eqb, ne_eqb}
use Rattle.input.specs.Classes.{Tree, child, sends}
use Rattle.rules.specs.Box.{Packet, Rows, head, head_length, head_class, has_head, virtual}
use Rattle.rules.specs.Promise.{within}
use Rattle.laws.specs.Sound.{Sound, Kid, Inner, Sender}
use Rattle.laws.specs.Moves.{SameHead}
use Rattle.laws.specs.Level.{sum}
use Rattle.laws.specs.Kept.{InLine, HeadOf}
use Rattle.laws.proofs.Level.Heads.{has_true, some_has}
use Rattle.laws.proofs.Tree.Paths.{kid_child, child_kid, parent_is_inner, parent_within, self_within}
use Rattle.laws.proofs.Tree.Depths.{sender_or_inner, from_children}
use Rattle.laws.proofs.Event.Holding.{sum_term}
use Rattle.live_rules.specs.State.{Live, queue}
use Rattle.live_rules.specs.Soundness.{any, children_sum, headed, first_headed, sender_sound, took_child, inner_sound, holding_sound}
use Rattle.live_rules.proofs.Alls.{both_true, true_both, true_any}
use Rattle.live_laws.proofs.Tests.{any_true}

-- what p's children have in a list, as the test and as the laws add it up
pub children_of : (tree : Tree) (xs : List ℕ) (p n : ℕ) → children_sum tree xs p n ≡ sum n (λ j. cond (child tree p j) (get_or xs j 0) 0)
unfolding children_sum sum
children_of tree xs p zero = refl
children_of tree xs p (suc n) = rw (children_of tree xs p n)

-- ── a head ──

abbrev pub Headed : Rows → ℕ → ℕ → ℕ → ℕ → Type 0
Headed a r packet length class = (head a r ≡ packet) × (head_length a r ≡ length) × (head_class a r ≡ class)

pub headed_is : (a : Rows) (r packet length class : ℕ) → headed a r packet length class ≡ true → Headed a r packet length class
unfolding headed
headed_is a r packet length class pass =
    let first = both_true (eqb (head a r) packet) _ pass in
    let second = both_true (eqb (head_length a r) length) (eqb (head_class a r) class) first.1 in
    (eqb-true (head a r) packet first.0, eqb-true (head_length a r) length second.0, eqb-true (head_class a r) class second.1)

pub is_headed : (a : Rows) (r packet length class : ℕ) → Headed a r packet length class → headed a r packet length class ≡ true
unfolding headed
is_headed a r packet length class is =
    true_both (eqb (head a r) packet) _ (eq-eqb (head a r) packet is.0)
    (true_both (eqb (head_length a r) length) (eqb (head_class a r) class) (eq-eqb (head_length a r) length is.1)
    (eq-eqb (head_class a r) class is.2))

-- ── a sending class's head is the first of its queue ──

first_idle : (a : Rows) (k : ℕ) (queue : List Packet) → first_headed a k queue ≡ true → head a k ≡ 0 → Headed a k 0 0 0
unfolding first_headed
first_idle a k [] first none = headed_is a k 0 0 0 first
first_idle a k (packet ∷ later) first none =
    let is = headed_is a k (suc packet.place) packet.length k first in
    absurd (omega arith)

first_empty : (a : Rows) (k : ℕ) (queue : List Packet) → first_headed a k queue ≡ true → length queue ≡ 0 → head a k ≡ 0
unfolding first_headed
first_empty a k [] first empty = (headed_is a k 0 0 0 first).0
first_empty a k (packet ∷ later) first empty = absurd (omega arith)

first_head : (a : Rows) (k : ℕ) (queue : List Packet) → first_headed a k queue ≡ true → HeadOf a k queue
unfolding first_headed HeadOf
first_head a k [] first = (headed_is a k 0 0 0 first).0
first_head a k (packet ∷ later) first = headed_is a k (suc packet.place) packet.length k first

pub head_first :
    (a : Rows) (k : ℕ) (queue : List Packet) → HeadOf a k queue → (head a k ≡ 0 → head_length a k ≡ 0) → (head a k ≡ 0 → head_class a k ≡ 0)
    → first_headed a k queue ≡ true
unfolding first_headed HeadOf
head_first a k [] of no_length no_class = is_headed a k 0 0 0 (of, no_length of, no_class of)
head_first a k (packet ∷ later) of no_length no_class = is_headed a k (suc packet.place) packet.length k of

-- such a head, of a queue in line
pub first_fits :
    (a : Rows) (k now most least : ℕ) (queue : List Packet) → head a k ≢ 0 → HeadOf a k queue → InLine now most least queue
    → (0 < head_length a k) × (head_length a k ≤ most) × (head_class a k ≡ k) × (head a k ≤ now)
unfolding HeadOf InLine
first_fits a k now most least [] has of line = absurd (has of)
first_fits a k now most least (packet ∷ later) has of line = (omega arith, omega arith, of.2, omega arith)

-- ── any other row's head is a child's ──

took_kid :
    (tree : Tree) (a : Rows) (p t : ℕ) → t < tree.rows → took_child tree a p t ≡ true
    → Kid tree p t × (head a t ≢ 0) × SameHead a p a t
unfolding took_child
took_kid tree a p t inside pass =
    let first = both_true (child tree p t) _ pass in
    let second = both_true (has_head a t) _ first.1 in
    let is = headed_is a p (head a t) (head_length a t) (head_class a t) second.1 in (
      child_kid tree p t inside first.0,
      has_true a t second.0,
      record { packet_same = sym is.0; length_same = sym is.1; class_same = sym is.2 },
    )

kid_took : (tree : Tree) (a : Rows) (p t : ℕ) → Kid tree p t → head a t ≢ 0 → SameHead a p a t → took_child tree a p t ≡ true
unfolding took_child
kid_took tree a p t kid has same =
    true_both (child tree p t) _ (kid_child tree p t kid)
    (true_both (has_head a t) _ (some_has a t has)
    (is_headed a p (head a t) (head_length a t) (head_class a t) (sym same.packet_same, sym same.length_same, sym same.class_same)))

-- ── from the test ──

module _ (live : Live) (sound : Sound live.tree) (each : (r : ℕ) → r < live.tree.rows → holding_sound live r ≡ true) where
  sender_test : (k : ℕ) → Sender live.tree k → sender_sound live k ≡ true
  unfolding holding_sound
  sender_test k sender = rw sender.sender at (each k sender.inside)

  inner_test : (p : ℕ) → Inner live.tree p → inner_sound live p ≡ true
  unfolding holding_sound
  inner_test p inner = rw inner.no_sender at (each p inner.inside)

  -- a sending class
  sender_parts :
      (k : ℕ) → Sender live.tree k
      → (get_or live.held k 0 ≡ length (queue live.packets k)) × (first_headed live.rows k (queue live.packets k) ≡ true)
      × (virtual live.rows k ≡ 0)
  unfolding sender_sound
  sender_parts k sender =
      let first = both_true (eqb (get_or live.held k 0) (length (queue live.packets k))) _ (sender_test k sender) in
      let second = both_true (first_headed live.rows k (queue live.packets k)) (eqb (virtual live.rows k) 0) first.1 in
      (eqb-true (get_or live.held k 0) (length (queue live.packets k)) first.0, second.0, eqb-true (virtual live.rows k) 0 second.1)

  pub sender_holds : (k : ℕ) → Sender live.tree k → get_or live.held k 0 ≡ length (queue live.packets k)
  sender_holds k sender = (sender_parts k sender).0

  pub sender_heads : (k : ℕ) → Sender live.tree k → HeadOf live.rows k (queue live.packets k)
  sender_heads k sender = first_head live.rows k (queue live.packets k) (sender_parts k sender).1

  pub sender_rests : (k : ℕ) → Sender live.tree k → virtual live.rows k ≡ 0
  sender_rests k sender = (sender_parts k sender).2

  -- any other row
  pub inner_holds :
      (p : ℕ) → Inner live.tree p
      → get_or live.held p 0 ≡ sum live.tree.rows (λ j. cond (child live.tree p j) (get_or live.held j 0) 0)
  unfolding inner_sound
  inner_holds p inner =
      eqb-true (get_or live.held p 0) (children_sum live.tree live.held p live.tree.rows)
      (both_true (eqb (get_or live.held p 0) (children_sum live.tree live.held p live.tree.rows)) _ (inner_test p inner)).0
      ∙ children_of live.tree live.held p live.tree.rows

  inner_head :
      (p : ℕ) → Inner live.tree p
      → cond (eqb (get_or live.held p 0) 0) (headed live.rows p 0 0 0) (any live.tree.rows (took_child live.tree live.rows p)) ≡ true
  unfolding inner_sound
  inner_head p inner =
      (both_true (eqb (get_or live.held p 0) (children_sum live.tree live.held p live.tree.rows)) _ (inner_test p inner)).1

  inner_empty : (p : ℕ) → Inner live.tree p → get_or live.held p 0 ≡ 0 → Headed live.rows p 0 0 0
  inner_empty p inner empty = headed_is live.rows p 0 0 0 (rw (eq-eqb (get_or live.held p 0) 0 empty) at (inner_head p inner))

  inner_took :
      (p : ℕ) → Inner live.tree p → get_or live.held p 0 ≢ 0
      → (t : ℕ) × Kid live.tree p t × (head live.rows t ≢ 0) × SameHead live.rows p live.rows t
  inner_took p inner some =
      let (t, inside, took) =
      any_true live.tree.rows (took_child live.tree live.rows p) (rw (ne_eqb (get_or live.held p 0) 0 some) at (inner_head p inner)) in
      let (kid, has, same) = took_kid live.tree live.rows p t inside took in
      (t, kid, has, same)

  -- without a head nothing is held, and the other way round
  idle_inner : (p : ℕ) → Inner live.tree p → head live.rows p ≡ 0 → get_or live.held p 0 ≡ 0
  idle_inner p inner none = go (ℕ_discrete (get_or live.held p 0) 0)
    where
      go : Dec (get_or live.held p 0 ≡ 0) → get_or live.held p 0 ≡ 0
      go (yes empty) = empty
      go (no some) = let (t, kid, has, same) = inner_took p inner some in absurd (has (same.packet_same ∙ none))

  empty_idle : (r : ℕ) → r < live.tree.rows → get_or live.held r 0 ≡ 0 → head live.rows r ≡ 0
  empty_idle r inside empty =
      ⊎_elim
      (λ sender. first_empty live.rows r (queue live.packets r) (sender_parts r sender).1 (sym (sender_parts r sender).0 ∙ empty))
      (λ inner. (inner_empty r inner empty).0) (sender_or_inner live.tree sound r inside)

  -- a row without a head has no length and no class of one
  pub idle_headed : (r : ℕ) → r < live.tree.rows → head live.rows r ≡ 0 → Headed live.rows r 0 0 0
  idle_headed r inside none =
      ⊎_elim (λ sender. first_idle live.rows r (queue live.packets r) (sender_parts r sender).1 none)
      (λ inner. inner_empty r inner (idle_inner r inner none)) (sender_or_inner live.tree sound r inside)

  pub below_idle : (p : ℕ) → head live.rows p ≡ 0 → (j : ℕ) → Kid live.tree p j → head live.rows j ≡ 0
  below_idle p none j kid =
      let inner = parent_is_inner live.tree sound p j kid in
      let empty = idle_inner p inner none in
      let all = inner_holds p inner in
      let part = sum_term live.tree.rows (λ j. cond (child live.tree p j) (get_or live.held j 0) 0) j kid.inside in
      let term = ap (λ (b : Bool). cond b (get_or live.held j 0) 0) (kid_child live.tree p j kid) in
      empty_idle j kid.inside (omega arith)

  pub child_heads :
      (p : ℕ) → Inner live.tree p → head live.rows p ≢ 0 → (t : ℕ) × Kid live.tree p t × SameHead live.rows p live.rows t
  child_heads p inner has =
      let (t, kid, some, same) = inner_took p inner (λ empty. has (inner_empty p inner empty).0) in
      (t, kid, same)

  -- what a head has: its class sends and is in the row's part of the tree, and it has 1 to so many bytes
  pub record Heads (most r : ℕ) : Type 0 where
    pub of_sender : Sender live.tree (head_class live.rows r)
    pub of_part : within live.tree r (head_class live.rows r) ≡ true
    pub some_length : 0 < head_length live.rows r
    pub few_length : head_length live.rows r ≤ most

  pub heads_fit :
      (now most : ℕ) → ((k : ℕ) → InLine now most 0 (queue live.packets k))
      → (r : ℕ) → r < live.tree.rows → head live.rows r ≢ 0 → Heads most r
  heads_fit now most lines =
      from_children live.tree sound (λ r. head live.rows r ≢ 0 → Heads most r)
      (λ r inside below has. ⊎_elim (own r has) (from r below has) (sender_or_inner live.tree sound r inside))
    where
      own : (k : ℕ) → head live.rows k ≢ 0 → Sender live.tree k → Heads most k
      own k has sender =
          let (some, few, class, earlier) = first_fits live.rows k now most 0 (queue live.packets k) has (sender_heads k sender) (lines k) in
          record {
            of_sender = rw class sender;
            of_part = rw class (self_within live.tree sound k);
            some_length = some;
            few_length = few;
          }

      from :
          (p : ℕ) → ((j : ℕ) → Kid live.tree p j → head live.rows j ≢ 0 → Heads most j) → head live.rows p ≢ 0
          → Inner live.tree p → Heads most p
      from p below has inner =
          let (t, kid, same) = child_heads p inner has in
          let its = below t kid (λ none. has (sym same.packet_same ∙ none)) in
          let class = same.class_same in
          let length = same.length_same in
          record {
            of_sender = subst (Sender live.tree) class its.of_sender;
            of_part =
                subst (λ (k : ℕ). within live.tree p k ≡ true) class
                (parent_within live.tree sound p t (head_class live.rows t) its.of_sender.inside kid its.of_part);
            some_length = rw length at its.some_length;
            few_length = rw length at its.few_length;
          }

-- ── to the test ──

module _ (live : Live) where
  pub sender_tells :
      (k : ℕ) → Sender live.tree k → get_or live.held k 0 ≡ length (queue live.packets k)
      → first_headed live.rows k (queue live.packets k) ≡ true → virtual live.rows k ≡ 0 → holding_sound live k ≡ true
  unfolding holding_sound sender_sound
  sender_tells k sender holds heads rests =
      rw sender.sender
      (true_both (eqb (get_or live.held k 0) (length (queue live.packets k))) _ (eq-eqb (get_or live.held k 0) (length (queue live.packets k)) holds)
      (true_both (first_headed live.rows k (queue live.packets k)) (eqb (virtual live.rows k) 0) heads (eq-eqb (virtual live.rows k) 0 rests)))

  pub inner_tells :
      (p : ℕ) → Inner live.tree p
      → get_or live.held p 0 ≡ sum live.tree.rows (λ j. cond (child live.tree p j) (get_or live.held j 0) 0)
      → (get_or live.held p 0 ≡ 0 → Headed live.rows p 0 0 0)
      → (get_or live.held p 0 ≢ 0 → (t : ℕ) × Kid live.tree p t × (head live.rows t ≢ 0) × SameHead live.rows p live.rows t)
      → holding_sound live p ≡ true
  unfolding holding_sound inner_sound
  inner_tells p inner holds empty some =
      rw inner.no_sender
      (true_both (eqb (get_or live.held p 0) (children_sum live.tree live.held p live.tree.rows)) _
      (eq-eqb (get_or live.held p 0) (children_sum live.tree live.held p live.tree.rows)
      (holds ∙ sym (children_of live.tree live.held p live.tree.rows))) (go (ℕ_discrete (get_or live.held p 0) 0)))
    where
      go :
          Dec (get_or live.held p 0 ≡ 0)
          → cond (eqb (get_or live.held p 0) 0) (headed live.rows p 0 0 0) (any live.tree.rows (took_child live.tree live.rows p)) ≡ true
      go (yes none) = rw (eq-eqb (get_or live.held p 0) 0 none) (is_headed live.rows p 0 0 0 (empty none))
      go (no has) =
          let (t, kid, has_t, same) = some has in
          rw (ne_eqb (get_or live.held p 0) 0 has)
          (true_any live.tree.rows (took_child live.tree live.rows p) t kid.inside (kid_took live.tree live.rows p t kid has_t same))
