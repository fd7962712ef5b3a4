-- A well-kept box stays well kept over every accepted event; to hold a packet and to have a head is the same for every row.
-- Assumes nothing.
use Prim.Native.Nat.{ℕ, zero, suc, pred, ◌≤◌, ◌<◌}
use mathlib.Core.Path.{◌≡◌, refl, sym, ap, subst, ◌∙◌}
use mathlib.Core.Logic.{◌≢◌, ⊎_elim}
use mathlib.Core.Bool.{Bool, true, false, cond}
use mathlib.Core.List.{List, [], ◌∷◌, ◌++◌}
use native.Mathlib.Decide.{ℕ_discrete}
use native.Mathlib.Omega.{arith}
use lib.ListN.{length, length-set, length-append}
use Rattle.input.specs.declared.Event.{Event}
use Rattle.input.specs.declared.Event.TheVariants.{Arrival, Finish}
use Rattle.input.specs.Classes.{Tree, parent, child, row_of}
use Rattle.input.specs.Events.{Events, class_word, length_word}
use Rattle.rules.specs.Box.{Packet, Box, Rows, head, head_length, head_class, held_by, queue_of}
use Rattle.rules.specs.Steps.{arrives, arrival, departure, step, after}
use Rattle.input.specs.Refusals.{meeting_refused}
use Rattle.rules.specs.Refused.{idle}
use Rattle.rules.specs.Promise.{within, for_part}
use Rattle.laws.specs.Sound.{Sound, Kid, Inner, Sender, ArrivalFits}
use Rattle.laws.specs.Moves.{SameHead, Settled}
use Rattle.laws.specs.Kept.{Kept, Fair, InLine, HeadOf, held_below, Covered}
use Rattle.laws.specs.History.{Accepted, largest_for}
use Rattle.rules.specs.Box.{line_class, left}
use Rattle.laws.proofs.Path.Tests.{cond_least}
use Rattle.laws.proofs.Level.Heads.{has_true}
use Rattle.laws.proofs.Tree.Paths.{kid_child, child_kid, self_within, sender_alone, along_length, along_at}
use Rattle.laws.proofs.Tree.Depths.{sender_or_inner, from_children, upwards}
use Rattle.laws.proofs.Tree.Trees.{arrival_fits, finish_fits}
use Rattle.laws.proofs.Level.Levels.{Even, still_even, arrival_even, departure_even}
use Rattle.laws.proofs.Path.ArrivalPath.{arrives_full, arrives_settled, arrives_behind, arrives_first, arrives_others, arrives_quiet}
use Rattle.laws.proofs.Path.DeparturePath.{NextFits, path_heads, departs_full, departs_settled, departs_class, departs_others, departs_quiet}
use Rattle.laws.proofs.Event.Turns.{class_at, turn}
use Rattle.laws.proofs.Event.Largest.{largest_covers, accepted_wider}
pub use Rattle.laws.proofs.Event.Outset.{fresh_kept, fresh_fair}
use Rattle.laws.proofs.Event.Queues.{in_line_wider, in_line_joined, length_tail, head_in_line, idle_empty, busy_some, OneQueue, lines_after, heads_after, counts_after}
use Rattle.laws.proofs.Event.Holding.{sum_none, sum_term, OneMore, more_own, more_other, more_below, less_below}
use Rattle.laws.proofs.Event.OneEvent.{arrival_at, arrival_held, line_sender, left_line, left_next, departure_on, departure_off}

-- ── heads ──

-- a row's head is the head of its class
pub class_head : (tree : Tree) → Sound tree → (a : Rows) → Settled tree a → (r : ℕ) → r < tree.rows → head a r ≢ 0 → SameHead a r a (head_class a r)
class_head tree sound a settled r inside has = from_children tree sound (λ r. head a r ≢ 0 → SameHead a r a (head_class a r)) up r inside has
  where
    up :
        (r : ℕ) → r < tree.rows → ((j : ℕ) → Kid tree r j → head a j ≢ 0 → SameHead a j a (head_class a j))
        → head a r ≢ 0 → SameHead a r a (head_class a r)
    up r inside below has = ⊎_elim own from (sender_or_inner tree sound r inside)
      where
        own : Sender tree r → SameHead a r a (head_class a r)
        own sender =
            let alone = sender_alone tree sound r (head_class a r) sender (settled.of_sender r inside has).inside (settled.of_part r inside has) in
            subst (λ (x : ℕ). SameHead a r a x) (sym alone) (record { packet_same = refl; length_same = refl; class_same = refl })

        from : Inner tree r → SameHead a r a (head_class a r)
        from inner =
            let (t, kid, same) = settled.from_child r inner has in
            let its = below t kid (λ none. has (sym same.packet_same ∙ none)) in
            subst (λ (x : ℕ). SameHead a r a x) same.class_same
            (record {
              packet_same = its.packet_same ∙ same.packet_same;
              length_same = its.length_same ∙ same.length_same;
              class_same = its.class_same ∙ same.class_same;
            })

module _ (tree : Tree) (sound : Sound tree) (big : ℕ → ℕ) (wider : (j : ℕ) → 0 < j → j < tree.rows → big j ≤ big (parent tree j)) where
  wider_within : (r x : ℕ) → r < tree.rows → x < tree.rows → within tree r x ≡ true → big x ≤ big r
  wider_within r x r_inside inside on = upwards tree sound x inside (λ r. big x ≤ big r) (omega arith) up r r_inside on
    where
      up : (p c : ℕ) → Kid tree p c → within tree c x ≡ true → big x ≤ big c → big x ≤ big p
      up p c kid on below = let above : big c ≤ big p = rw kid.under at (wider c kid.positive kid.inside) in omega arith

  -- a head is no longer than the largest in its part, as it stands first in a queue there
  small_heads :
      (now : ℕ) (box : Box) → Settled tree box.rows
      → ((k : ℕ) → Sender tree k → InLine now (big k) 0 (queue_of box k))
      → ((k : ℕ) → Sender tree k → HeadOf box.rows k (queue_of box k))
      → (r : ℕ) → r < tree.rows → head_length box.rows r ≤ big r
  small_heads now box settled lines heads r inside = go (ℕ_discrete (head box.rows r) 0)
    where
      go : Dec (head box.rows r ≡ 0) → head_length box.rows r ≤ big r
      go (yes none) = let short = settled.no_length r inside none in omega arith
      go (no has) =
          let class = head_class box.rows r in
          let sender = settled.of_sender r inside has in
          let same = class_head tree sound box.rows settled r inside has in
          let within_class =
          head_in_line box.rows class now (big class) 0 (queue_of box class) (λ none. has (sym same.packet_same ∙ none))
          (heads class sender) (lines class sender) in
          let of_row = wider_within r class inside sender.inside (settled.of_part r inside has) in
          omega arith

  module _ (now : ℕ) (box : Box) (kept : Kept tree big now box) where
    -- busy: a head exactly where a packet is held
    pub idle_holds_none : (r : ℕ) → r < tree.rows → head box.rows r ≡ 0 → held_by box r ≡ 0
    unfolding held_below
    idle_holds_none r inside none = from_children tree sound (λ r. head box.rows r ≡ 0 → held_by box r ≡ 0) up r inside none
      where
        up :
            (r : ℕ) → r < tree.rows → ((j : ℕ) → Kid tree r j → head box.rows j ≡ 0 → held_by box j ≡ 0)
            → head box.rows r ≡ 0 → held_by box r ≡ 0
        up r inside below none = ⊎_elim own from (sender_or_inner tree sound r inside)
          where
            term : (j : ℕ) → j < tree.rows → (b : Bool) → child tree r j ≡ b → cond b (held_by box j) 0 ≡ 0
            term j within true is = let kid = child_kid tree r j within is in below j kid (kept.settled.idle_below r none j kid)
            term j within false is = refl

            own : Sender tree r → held_by box r ≡ 0
            own sender = kept.held_sender r sender ∙ idle_empty box.rows r (queue_of box r) (kept.heads_kept r sender) none

            from : Inner tree r → held_by box r ≡ 0
            from inner =
                kept.held_inner r inner
                ∙ sum_none tree.rows (λ j. cond (child tree r j) (held_by box j) 0) (λ j within. term j within (child tree r j) refl)

    pub busy_holds : (r : ℕ) → r < tree.rows → head box.rows r ≢ 0 → 0 < held_by box r
    unfolding held_below
    busy_holds r inside has = from_children tree sound (λ r. head box.rows r ≢ 0 → 0 < held_by box r) up r inside has
      where
        up :
            (r : ℕ) → r < tree.rows → ((j : ℕ) → Kid tree r j → head box.rows j ≢ 0 → 0 < held_by box j)
            → head box.rows r ≢ 0 → 0 < held_by box r
        up r inside below has = ⊎_elim own from (sender_or_inner tree sound r inside)
          where
            own : Sender tree r → 0 < held_by box r
            own sender =
                let some = busy_some box.rows r (queue_of box r) (kept.heads_kept r sender) has in
                let all = kept.held_sender r sender in
                omega arith

            from : Inner tree r → 0 < held_by box r
            from inner =
                let (t, kid, same) = kept.settled.from_child r inner has in
                let one = below t kid (λ none. has (sym same.packet_same ∙ none)) in
                let term = ap (λ (b : Bool). cond b (held_by box t) 0) (kid_child tree r t kid) in
                let part = sum_term tree.rows (λ j. cond (child tree r j) (held_by box j) 0) t kid.inside in
                let all = kept.held_inner r inner in
                omega arith

    -- and the other way round
    pub holds_head : (r : ℕ) → r < tree.rows → 0 < held_by box r → head box.rows r ≢ 0
    holds_head r inside holds none = let empty = idle_holds_none r inside none in omega arith

    pub holds_none : (r : ℕ) → r < tree.rows → held_by box r ≡ 0 → head box.rows r ≡ 0
    holds_none r inside empty = go (ℕ_discrete (head box.rows r) 0)
      where
        go : Dec (head box.rows r ≡ 0) → head box.rows r ≡ 0
        go (yes none) = none
        go (no has) = let holds = busy_holds r inside has in absurd (omega arith)

    -- ── an arrival ──

    module _ (k length : ℕ) (sender : Sender tree k) (some : 0 < length) (small : length ≤ big k) where
      arrival_queue : OneQueue tree big now box k (queue_of box k ++ record { place = now; length = length } ∷ []) (arrival tree now k length box)
      unfolding arrival HeadOf
      arrival_queue =
          record {
            queues = refl;
            line = in_line_joined now (big k) 0 length (queue_of box k) (omega arith) some small (kept.queues_kept k sender);
            first = first (queue_of box k) (kept.heads_kept k sender);
            others =
                λ j other apart. (arrives_others tree sound box.rows kept.rows_full kept.settled now k length sender some j other apart
                ).head_same;
            held = counts (queue_of box k) (kept.held_sender k sender);
            held_others = more_other tree sound k sender box (arrival tree now k length box) (arrival_held tree sound big now box kept k length sender);
          }
        where
          first :
              (queue : List Packet) → HeadOf box.rows k queue
              → HeadOf (arrives tree now k length box.rows) k (queue ++ record { place = now; length = length } ∷ [])
          first [] none = arrives_first tree sound box.rows kept.rows_full kept.settled now k length sender some none
          first (packet ∷ rest) of =
              subst (λ (a : Rows). HeadOf a k (packet ∷ rest))
              (sym (arrives_behind tree sound box.rows kept.rows_full kept.settled now k length sender some (omega arith))) of

          counts :
              (queue : List Packet) → held_by box k ≡ lib.ListN.length queue
              → held_by (arrival tree now k length box) k ≡ lib.ListN.length (queue ++ record { place = now; length = length } ∷ [])
          counts queue before =
              let own = more_own tree sound k sender box (arrival tree now k length box) (arrival_held tree sound big now box kept k length sender) in
              let longer = length-append queue (record { place = now; length = length } ∷ []) in
              omega arith

      arrival_settled : Settled tree (arrival tree now k length box).rows
      unfolding arrival
      arrival_settled = arrives_settled tree sound box.rows kept.rows_full kept.settled now k length sender some

      arrival_small : (r : ℕ) → r < tree.rows → head_length (arrival tree now k length box).rows r ≤ big r
      arrival_small =
          small_heads (suc now) (arrival tree now k length box) arrival_settled
          (lines_after tree sound big now box kept k sender _ (arrival tree now k length box) arrival_queue)
          (heads_after tree sound big now box kept k sender _ (arrival tree now k length box) arrival_queue)

      pub arrival_fair : Fair tree big box.rows → Fair tree big (arrival tree now k length box).rows
      arrival_fair fair p t inner =
          ⊎_elim
          (λ still. still_even tree sound big wider box.rows (arrival tree now k length box).rows kept.settled arrival_settled arrival_small p inner
          still (λ t. fair p t inner))
          (λ (c, move). arrival_even tree sound big wider box.rows (arrival tree now k length box).rows kept.settled arrival_settled arrival_small p inner
          k c move (λ t. fair p t inner))
          (arrival_at tree sound big now box kept k length sender some p inner) t

    pub arrival_kept : (k length : ℕ) → Sender tree k → 0 < length → length ≤ big k → Kept tree big (suc now) (arrival tree now k length box)
    unfolding arrival
    arrival_kept k length sender some small =
        let quiet = arrives_quiet tree sound box.rows kept.rows_full kept.settled now k length sender some in
        let one = arrival_queue k length sender some small in
        record {
          rows_full = arrives_full tree sound box.rows kept.rows_full kept.settled now k length sender some;
          bytes_full = kept.bytes_full;
          held_full = along_length tree sound _ k box.held ∙ kept.held_full;
          since_full = along_length tree sound _ k box.since ∙ kept.since_full;
          parent_since_full = along_length tree sound _ k box.parent_since ∙ kept.parent_since_full;
          queues_full = length-set box.queues k _ ∙ kept.queues_full;
          settled = arrival_settled k length sender some small;
          heads_small = arrival_small k length sender some small;
          queues_kept = lines_after tree sound big now box kept k sender _ (arrival tree now k length box) one;
          heads_kept = heads_after tree sound big now box kept k sender _ (arrival tree now k length box) one;
          held_sender = counts_after tree sound big now box kept k sender _ (arrival tree now k length box) one;
          held_inner =
              λ p inner. more_below tree sound k sender box (arrival tree now k length box) (arrival_held tree sound big now box kept k length sender) p inner
              (kept.held_inner p inner);
          sender_virtual = λ j other. quiet.0 j other ∙ kept.sender_virtual j other;
          root_start = quiet.1 ∙ kept.root_start;
          root_finish = quiet.2 ∙ kept.root_finish;
        }

    -- ── a finish ──

    module _ (busy : head box.rows 0 ≢ 0) where
      class : Sender tree (line_class box)
      class = line_sender tree sound big now box kept busy

      next : NextFits (left box)
      next = left_next tree sound big now box kept busy

      -- every row on the line's path holds a packet, so that one less is exact
      pub departure_held : OneMore tree (line_class box) (departure tree box) box
      unfolding departure
      departure_held r inside =
          go (within tree r (line_class box)) refl
          (along_at tree sound (λ r n. pred n) (line_class box) r box.held class.inside inside kept.held_full)
        where
          go :
              (b : Bool) → within tree r (line_class box) ≡ b
              → held_by (departure tree box) r ≡ cond b (pred (held_by box r)) (held_by box r)
              → held_by box r ≡ cond b (suc (held_by (departure tree box) r)) (held_by (departure tree box) r)
          go true on after =
              let same = path_heads tree sound box.rows kept.rows_full kept.settled busy r inside on in
              let some = busy_holds r inside (λ none. busy (sym same.packet_same ∙ none)) in
              let one_less : held_by (departure tree box) r ≡ pred (held_by box r) = after in
              omega arith
          go false off after = sym after

      pub departure_fewer : (r : ℕ) → r < tree.rows → held_by (departure tree box) r ≤ held_by box r
      departure_fewer r inside =
          rw (departure_held r inside) (cond_least (within tree r (line_class box)) _ _ _ (omega arith) (omega arith))

      departure_queue : OneQueue tree big now box (line_class box) (left box) (departure tree box)
      unfolding departure
      departure_queue =
          record {
            queues = refl;
            line = in_line_wider now (suc now) (big (line_class box)) 0 0 (left box) (omega arith) (omega arith) (left_line tree sound big now box kept busy);
            first = departs_class tree sound box.rows kept.rows_full kept.settled busy (left box) next;
            others =
                λ j other apart. (departs_others tree sound box.rows kept.rows_full kept.settled busy (left box) next j other apart
                ).head_same;
            held = counts;
            held_others =
                λ j other apart. sym (more_other tree sound (line_class box) class (departure tree box) box departure_held j other apart);
          }
        where
          counts : held_by (departure tree box) (line_class box) ≡ length (left box)
          counts =
              let own = more_own tree sound (line_class box) class (departure tree box) box departure_held in
              let before = kept.held_sender (line_class box) class in
              let shorter = length_tail (queue_of box (line_class box)) in
              omega arith

      departure_settled : Settled tree (departure tree box).rows
      unfolding departure
      departure_settled = departs_settled tree sound box.rows kept.rows_full kept.settled busy (left box) next

      departure_small : (r : ℕ) → r < tree.rows → head_length (departure tree box).rows r ≤ big r
      departure_small =
          small_heads (suc now) (departure tree box) departure_settled
          (lines_after tree sound big now box kept (line_class box) class (left box) (departure tree box) departure_queue)
          (heads_after tree sound big now box kept (line_class box) class (left box) (departure tree box) departure_queue)

      pub departure_fair : Fair tree big box.rows → Fair tree big (departure tree box).rows
      departure_fair fair p t inner = go (within tree p (line_class box)) refl t
        where
          go : (b : Bool) → within tree p (line_class box) ≡ b → Even tree big (departure tree box).rows p
          go true on =
              let (c, move) = departure_on tree sound big now box kept busy p inner on in
              departure_even tree sound big wider box.rows (departure tree box).rows kept.settled departure_settled departure_small p inner
              (line_class box) c move (λ t. fair p t inner)
          go false off =
              still_even tree sound big wider box.rows (departure tree box).rows kept.settled departure_settled departure_small p inner
              (departure_off tree sound big now box kept busy p inner off) (λ t. fair p t inner)

    pub departure_kept : head box.rows 0 ≢ 0 → Kept tree big (suc now) (departure tree box)
    unfolding departure
    departure_kept busy =
        let quiet = departs_quiet tree sound box.rows kept.rows_full kept.settled busy (left box) (next busy) in
        let one = departure_queue busy in
        record {
          rows_full = departs_full tree sound box.rows kept.rows_full kept.settled busy (left box) (next busy);
          bytes_full = along_length tree sound _ (line_class box) box.bytes ∙ kept.bytes_full;
          held_full = along_length tree sound _ (line_class box) box.held ∙ kept.held_full;
          since_full = kept.since_full;
          parent_since_full = kept.parent_since_full;
          queues_full = length-set box.queues (line_class box) _ ∙ kept.queues_full;
          settled = departure_settled busy;
          heads_small = departure_small busy;
          queues_kept = lines_after tree sound big now box kept (line_class box) (class busy) (left box) (departure tree box) one;
          heads_kept = heads_after tree sound big now box kept (line_class box) (class busy) (left box) (departure tree box) one;
          held_sender = counts_after tree sound big now box kept (line_class box) (class busy) (left box) (departure tree box) one;
          held_inner =
              λ p inner. less_below tree sound (line_class box) (class busy) (departure tree box) box (departure_held busy) p inner
              (kept.held_inner p inner);
          sender_virtual = λ j other. quiet.0 j other ∙ kept.sender_virtual j other;
          root_start = quiet.1 ∙ kept.root_start;
          root_finish = quiet.2 ∙ kept.root_finish;
        }

    -- an event that is not refused in this box, if its packet is no larger than its class's largest
    pub step_kept :
        (word : ℕ) (e : Event) → (meeting_refused tree now word e (idle box)).number ≡ 0 → Covered tree big e → Kept tree big (suc now) (step tree now e box)
    unfolding step Covered
    step_kept word (Arrival class length) passes small =
        let fits = arrival_fits tree sound now word class length (idle box) passes in
        arrival_kept (row_of tree class) length fits.sender fits.some_bytes small
    step_kept word Finish passes small =
        departure_kept (has_true box.rows 0 (finish_fits tree now word box passes).1)

    -- and a fair box is fair after it
    pub step_fair :
        (word : ℕ) (e : Event) → (meeting_refused tree now word e (idle box)).number ≡ 0 → Covered tree big e → Fair tree big box.rows
        → Fair tree big (step tree now e box).rows
    unfolding step Covered
    step_fair word (Arrival class length) passes small =
        let fits = arrival_fits tree sound now word class length (idle box) passes in
        arrival_fair (row_of tree class) length fits.sender fits.some_bytes small
    step_fair word Finish passes small =
        departure_fair (has_true box.rows 0 (finish_fits tree now word box passes).1)

-- ── a run ──

-- after n accepted events the box is well kept, for any bound that grows up the tree and that no packet exceeds
pub kept_under :
    (tree : Tree) (events : Events) (last : ℕ) → Accepted tree events last → (big : ℕ → ℕ)
    → ((j : ℕ) → 0 < j → j < tree.rows → big j ≤ big (parent tree j))
    → ((i : ℕ) → i < last → ArrivalFits tree (class_word events i) (length_word events i) → length_word events i ≤ big (class_at tree events i))
    → (n : ℕ) → n ≤ last → Kept tree big n (after tree events n)
unfolding after
kept_under tree events last ok big wider small zero earlier = fresh_kept tree ok.sound big wider
kept_under tree events last ok big wider small (suc n) earlier =
    let before = kept_under tree events last ok big wider small n (omega arith) in
    turn tree events last ok n (omega arith) (Kept tree big (suc n))
    (λ is fits. arrival_kept tree ok.sound big wider n (after tree events n) before (class_at tree events n) (length_word events n)
    fits.sender fits.some_bytes (small n (omega arith) fits))
    (λ is none busy. departure_kept tree ok.sound big wider n (after tree events n) before busy)

-- so it is for the largest packets, of any later moment too
pub kept :
    (tree : Tree) (events : Events) (n m : ℕ) → n ≤ m → Accepted tree events m
    → Kept tree (λ (r : ℕ). largest_for tree events r m) n (after tree events n)
unfolding for_part
kept tree events n m earlier ok =
    kept_under tree events m ok (λ r. largest_for tree events r m) (accepted_wider tree events m ok)
    (λ i before fits. largest_covers tree events (class_at tree events i) i m before (self_within tree ok.sound (class_at tree events i))) n earlier

-- and fair
pub fair_under :
    (tree : Tree) (events : Events) (last : ℕ) → Accepted tree events last → (big : ℕ → ℕ)
    → ((j : ℕ) → 0 < j → j < tree.rows → big j ≤ big (parent tree j))
    → ((i : ℕ) → i < last → ArrivalFits tree (class_word events i) (length_word events i) → length_word events i ≤ big (class_at tree events i))
    → (n : ℕ) → n ≤ last → Fair tree big (after tree events n).rows
unfolding after
fair_under tree events last ok big wider small zero earlier = fresh_fair tree ok.sound big wider
fair_under tree events last ok big wider small (suc n) earlier =
    let before = kept_under tree events last ok big wider small n (omega arith) in
    let fair = fair_under tree events last ok big wider small n (omega arith) in
    turn tree events last ok n (omega arith) (λ next. Fair tree big next.rows)
    (λ is fits. arrival_fair tree ok.sound big wider n (after tree events n) before (class_at tree events n) (length_word events n)
    fits.sender fits.some_bytes (small n (omega arith) fits) fair)
    (λ is none busy. departure_fair tree ok.sound big wider n (after tree events n) before busy fair)

pub fair :
    (tree : Tree) (events : Events) (n m : ℕ) → n ≤ m → Accepted tree events m
    → Fair tree (λ (r : ℕ). largest_for tree events r m) (after tree events n).rows
unfolding for_part
fair tree events n m earlier ok =
    fair_under tree events m ok (λ r. largest_for tree events r m) (accepted_wider tree events m ok)
    (λ i before fits. largest_covers tree events (class_at tree events i) i m before (self_within tree ok.sound (class_at tree events i))) n earlier
