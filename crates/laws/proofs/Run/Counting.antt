-- One invariant of every run: the order is the packets finished and the one on the line, and they and the queues are the arrivals.
-- Assumes nothing.
use Prim.Native.Nat.{ℕ, zero, suc, pred, ◌+◌, ◌≤◌, ◌<◌}
use mathlib.Core.Path.{◌≡◌, refl, sym, ap, ◌∙◌, subst}
use mathlib.Core.Logic.{◌≢◌}
use mathlib.Core.Bool.{Bool, true, false, cond}
use mathlib.Core.List.{List, [], ◌∷◌, ◌++◌, map, map-append, append-nil, append_assoc}
use native.Mathlib.Decide.{ℕ_discrete}
use native.Mathlib.Omega.{arith}
use lib.ListN.{length, get_or, set, length-append}
use Rattle.input.specs.declared.Event.TheVariants.{Finish}
use Rattle.input.specs.Classes.{Tree, parent}
use Rattle.input.specs.Events.{Events, class_word, length_word, event}
use Rattle.rules.specs.Box.{Packet, Rows, Box, fresh, head, head_length, has_head, bytes_of, held_by, queue_of}
use Rattle.rules.specs.Steps.{arrives, leaves, sent, arrival, departure, after}
use Rattle.rules.specs.Promise.{within, for_part, one_finish, one_arrival, finish_count, arrived, packets_for, bytes_for}
use Rattle.laws.specs.Sound.{Sound, Sender, ArrivalFits}
use Rattle.laws.specs.Moves.{SameHead}
use Rattle.laws.specs.Kept.{HeadOf, Kept}
use Rattle.laws.specs.History.{Accepted, arrivals_of, only_for}
use Rattle.rules.specs.Box.{line_class}
use Rattle.laws.proofs.Path.Tests.{cond_self}
use Rattle.laws.proofs.Level.Heads.{has_true, has_false, some_has, none_has}
use Rattle.laws.proofs.Tree.Paths.{root_within, self_within}
use Rattle.laws.proofs.Tree.Depths.{sender_off}
use Rattle.laws.proofs.Path.ArrivalPath.{arrives_line_busy}
use Rattle.laws.proofs.Path.DeparturePath.{leaves_idle}
use Rattle.laws.proofs.Event.Turns.{class_at, Arrives, fewer, turn}
use Rattle.laws.proofs.Event.Largest.{parts_largest, accepted_wider}
use Rattle.laws.proofs.Event.Queues.{each_queue}
use Rattle.laws.proofs.Event.Outset.{zeros_at, empty_queue}
use Rattle.laws.proofs.Event.OneEvent.{arrival_held, line_sender, departure_bytes}
use Rattle.laws.proofs.Event.Keeping.{class_head, idle_holds_none, busy_holds, departure_held, kept}
use Rattle.laws.proofs.Run.Orders.{All, all_append, packets_last, bytes_last}
use Rattle.laws.proofs.Run.Orders.{only_last, only_other, arrivals_finish, arrivals_own, arrivals_other}

-- ── the line ──

-- the packet on the line, if there is one
unfoldable pub on_line : Rows → List ℕ
on_line a = cond (has_head a 0) (pred (head a 0) ∷ []) []

pub on_line_length : (a : Rows) → length (on_line a) ≡ cond (has_head a 0) 1 0
unfolding on_line
on_line_length a = go (has_head a 0)
  where
    go : (b : Bool) → length (cond b (pred (head a 0) ∷ []) []) ≡ cond b 1 0
    go true = refl
    go false = refl

idle_line : (a : Rows) → head a 0 ≡ 0 → on_line a ≡ []
unfolding on_line
idle_line a none = rw (none_has a 0 none)

sent_idle : (a b : Rows) → head a 0 ≡ 0 → on_line a ++ sent a b ≡ on_line b
unfolding on_line sent
sent_idle a b none = rw (none_has a 0 none)

sent_busy : (a b : Rows) → head a 0 ≢ 0 → head b 0 ≡ head a 0 → on_line a ++ sent a b ≡ on_line b
unfolding on_line sent
sent_busy a b has same = rw (some_has a 0 has, some_has b 0 (λ none. has (sym same ∙ none)), same)

-- ── the invariant ──

-- a packet of row k's queue, as its event has it
pub record Known (tree : Tree) (events : Events) (k : ℕ) (packet : Packet) : Type 0 where
  pub class_known : class_at tree events packet.place ≡ k
  length_known : length_word events packet.place ≡ packet.length

abbrev places : List Packet → List ℕ
places queue = map (λ (packet : Packet). packet.place) queue

-- the packet is for a sending class
abbrev pub ForSender : Tree → Events → ℕ → Type 0
ForSender tree events i = Sender tree (class_at tree events i)

-- after n events the packets `done` are finished, in this order
pub record Counted (tree : Tree) (events : Events) (n : ℕ) (box : Box) (done : List ℕ) : Type 0 where
  pub order_parts : box.order ≡ done ++ on_line box.rows
  pub done_length : length done ≡ finish_count events n
  done_sent : All (ForSender tree events) done
  pub bytes_agree : (r : ℕ) → r < tree.rows → bytes_of box r ≡ bytes_for tree events r done
  pub held_agree : (r : ℕ) → r < tree.rows → arrived tree events r n ≡ packets_for tree events r done + held_by box r
  pub queue_known : (k : ℕ) → Sender tree k → All (Known tree events k) (queue_of box k)
  queue_agree : (k : ℕ) → Sender tree k → only_for tree events k done ++ places (queue_of box k) ≡ arrivals_of tree events k n

fresh_counted : (tree : Tree) (events : Events) → Counted tree events 0 fresh []
unfolding fresh on_line finish_count arrived bytes_for packets_for only_for arrivals_of
fresh_counted tree events =
    record {
      order_parts = rw (none_has fresh.rows 0 (zeros_at 0));
      done_length = refl;
      done_sent = tt;
      bytes_agree = λ r inside. zeros_at r;
      held_agree = λ r inside. omega (arith, zeros_at r);
      queue_known = λ k sender. rw (empty_queue k) tt;
      queue_agree = λ k sender. rw (empty_queue k);
    }

-- ── what one event does to it ──

one_more : (b : Bool) (a p h : ℕ) → a ≡ p + h → a + cond b 1 0 ≡ p + cond b (suc h) h
one_more true a p h agree = omega arith
one_more false a p h agree = omega arith

one_less : (b : Bool) (a p h h' : ℕ) → a ≡ p + h → h ≡ cond b (suc h') h' → a + 0 ≡ p + cond b 1 0 + h'
one_less true a p h h' agree less = omega arith
one_less false a p h h' agree less = omega arith

bytes_more : (b : Bool) (l x y : ℕ) → x ≡ y → cond b (x + l) x ≡ y + cond b l 0
bytes_more true l x y agree = omega arith
bytes_more false l x y agree = omega arith

order_goes_on : (order done line more next : List ℕ) → order ≡ done ++ line → line ++ more ≡ next → order ++ more ≡ done ++ next
order_goes_on order done line more next parts line_next = rw (parts, append_assoc, line_next)

module _
    (tree : Tree) (sound : Sound tree) (events : Events) (big : ℕ → ℕ) (wider : (j : ℕ) → 0 < j → j < tree.rows → big j ≤ big (parent tree j))
    (n : ℕ) (box : Box) (well : Kept tree big n box) (done : List ℕ) (so_far : Counted tree events n box done) where
  -- ── an arrival ──

  arrival_counted :
      Arrives events n → ArrivalFits tree (class_word events n) (length_word events n)
      → Counted tree events (suc n) (arrival tree n (class_at tree events n) (length_word events n) box) done
  unfolding arrival finish_count one_finish arrived one_arrival for_part
  arrival_counted is fits =
      let k = class_at tree events n in
      record {
        order_parts = order_goes_on box.order done (on_line box.rows) _ _ so_far.order_parts (line (ℕ_discrete (head box.rows 0) 0));
        done_length = rw is (omega (arith, so_far.done_length));
        done_sent = so_far.done_sent;
        bytes_agree = so_far.bytes_agree;
        held_agree =
            λ r inside. rw (is, arrival_held tree sound big n box well k (length_word events n) fits.sender r inside)
            (one_more (within tree r k) _ _ _ (so_far.held_agree r inside));
        queue_known =
            each_queue tree sound big n box well k fits.sender _ (λ q queue. All (Known tree events q) queue)
            (all_append (Known tree events k) (queue_of box k) _ (so_far.queue_known k fits.sender) (record { class_known = refl; length_known = refl }, tt))
            (λ j sender apart. so_far.queue_known j sender);
        queue_agree =
            each_queue tree sound big n box well k fits.sender _ (λ q queue. only_for tree events q done ++ places queue ≡ arrivals_of tree events q (suc n))
            (rw (arrivals_own tree events k n _ _ is (self_within tree sound k), ← so_far.queue_agree k fits.sender, append_assoc, map-append))
            (λ j sender apart. rw (arrivals_other tree events j n (sender_off tree sound k fits.sender.inside j sender apart)) (so_far.queue_agree j sender));
      }
    where
      line :
          Dec (head box.rows 0 ≡ 0)
          → on_line box.rows ++ sent box.rows (arrives tree n (class_at tree events n) (length_word events n) box.rows)
          ≡ on_line (arrives tree n (class_at tree events n) (length_word events n) box.rows)
      line (yes none) = sent_idle box.rows _ none
      line (no busy) =
          sent_busy box.rows _ busy
          (arrives_line_busy tree sound box.rows well.rows_full well.settled n _ _ fits.sender fits.some_bytes busy).packet_same

  -- ── the line's finish ──

  -- the packet on the line is the first of its class's queue
  record Line : Type 0 where
    first : Packet
    later : List Packet
    sends : Sender tree (line_class box)
    queued : queue_of box (line_class box) ≡ first ∷ later
    named : head box.rows 0 ≡ suc first.place
    long : head_length box.rows 0 ≡ first.length

  line_first : head box.rows 0 ≢ 0 → Line
  unfolding HeadOf
  line_first busy =
      let k = line_class box in
      let sends = line_sender tree sound big n box well busy in
      let same = class_head tree sound box.rows well.settled 0 sound.some_rows busy in
      go sends same (queue_of box k) refl (well.heads_kept k sends)
    where
      go :
          Sender tree (line_class box) → SameHead box.rows 0 box.rows (line_class box) → (queue : List Packet)
          → queue_of box (line_class box) ≡ queue → HeadOf box.rows (line_class box) queue → Line
      go sends same [] queued none = absurd (busy (sym same.packet_same ∙ none))
      go sends same (first ∷ later) queued (named, long, own) =
          record {
            first = first;
            later = later;
            sends = sends;
            queued = queued;
            named = sym same.packet_same ∙ named;
            long = sym same.length_same ∙ long;
          }

  module _ (busy : head box.rows 0 ≢ 0) (line : Line) where
    line_known : All (Known tree events (line_class box)) (line.first ∷ line.later)
    line_known = subst (λ queue. All (Known tree events (line_class box)) queue) line.queued (so_far.queue_known _ line.sends)

    line_order : box.order ≡ done ++ line.first.place ∷ []
    unfolding on_line
    line_order = rw (so_far.order_parts, some_has box.rows 0 busy, line.named)

    line_sent : All (ForSender tree events) (done ++ line.first.place ∷ [])
    line_sent = all_append (ForSender tree events) done _ so_far.done_sent (rw line_known.0.class_known line.sends, tt)

    line_part : (r : ℕ) → for_part tree events r line.first.place ≡ within tree r (line_class box)
    unfolding for_part
    line_part r = rw line_known.0.class_known

    -- what its class has left follows it
    line_agree :
        (j : ℕ) → Sender tree j
        → only_for tree events j (done ++ line.first.place ∷ []) ++ places (get_or (set box.queues (line_class box) line.later) j [])
        ≡ arrivals_of tree events j n
    line_agree =
        let k = line_class box in
        let i = line.first.place in
        each_queue tree sound big n box well k line.sends _ (λ q queue. only_for tree events q (done ++ i ∷ []) ++ places queue ≡ arrivals_of tree events q n)
        (rw (only_last tree events k done i (line_part k ∙ self_within tree sound k), append_assoc)
        (rw line.queued at (so_far.queue_agree k line.sends)))
        (λ j sender apart. rw (only_other tree events j done i (line_part j ∙ sender_off tree sound k line.sends.inside j sender apart)) (so_far.queue_agree j sender))

    departure_counted : event events n ≡ Finish → Counted tree events (suc n) (departure tree box) (done ++ line.first.place ∷ [])
    unfolding departure finish_count one_finish arrived one_arrival
    departure_counted is =
        let k = line_class box in
        let i = line.first.place in
        let none = leaves_idle tree sound box.rows well.rows_full well.settled busy [] tt in
        record {
          order_parts =
              order_goes_on box.order (done ++ i ∷ []) (on_line (leaves tree k box.rows)) _ _
              (rw (idle_line (leaves tree k box.rows) none, append-nil) line_order) (sent_idle (leaves tree k box.rows) _ none);
          done_length = rw (is, length-append) (omega (arith, so_far.done_length));
          done_sent = line_sent;
          bytes_agree =
              λ r inside. rw (
                departure_bytes tree sound big n box well busy r inside,
                bytes_last tree events r done i,
                line_part r,
                line_known.0.length_known,
                line.long,
              )
              (bytes_more (within tree r k) _ _ _ (so_far.bytes_agree r inside));
          held_agree =
              λ r inside. rw (
                is,
                cond_self,
                packets_last tree events r done i,
                line_part r,
              )
              (one_less (within tree r k) _ _ _ _ (so_far.held_agree r inside) (departure_held tree sound big wider n box well busy r inside));
          queue_known =
              λ j sender. rw line.queued
              (each_queue tree sound big n box well k line.sends _ (λ q queue. All (Known tree events q) queue)
              line_known.1 (λ j sender apart. so_far.queue_known j sender) j sender);
          queue_agree = λ j sender. rw (line.queued, arrivals_finish tree events j n is) (line_agree j sender);
        }

  -- ── the order ──

  order_known : All (ForSender tree events) box.order
  order_known = go (ℕ_discrete (head box.rows 0) 0)
    where
      go : Dec (head box.rows 0 ≡ 0) → All (ForSender tree events) box.order
      go (yes none) = rw (so_far.order_parts, idle_line box.rows none, append-nil) so_far.done_sent
      go (no busy) = let line = line_first busy in rw (line_order busy line) (line_sent busy line)

  order_prefix : (k : ℕ) → Sender tree k → (rest : List ℕ) × (only_for tree events k box.order ++ rest ≡ arrivals_of tree events k n)
  order_prefix k sender = go (ℕ_discrete (head box.rows 0) 0)
    where
      go : Dec (head box.rows 0 ≡ 0) → (rest : List ℕ) × (only_for tree events k box.order ++ rest ≡ arrivals_of tree events k n)
      go (yes none) =
          (places (queue_of box k), rw (so_far.order_parts, idle_line box.rows none, append-nil) (so_far.queue_agree k sender))
      go (no busy) =
          let line = line_first busy in
          let rest = places (get_or (set box.queues (line_class box) line.later) k []) in
          (rest, ap (λ xs. only_for tree events k xs ++ rest) (line_order busy line) ∙ line_agree busy line k sender)

-- ── a run ──

-- every packet of a sending class is in the root's part
all_packets : (tree : Tree) → Sound tree → (events : Events) (xs : List ℕ) → All (ForSender tree events) xs → packets_for tree events 0 xs ≡ length xs
unfolding packets_for for_part
all_packets tree sound events [] all = refl
all_packets tree sound events (x ∷ xs) (here, all) =
    rw (root_within tree sound (class_at tree events x) here.inside) (omega (arith, all_packets tree sound events xs all))

module _ (tree : Tree) (events : Events) where
  abbrev Run : ℕ → Type 0
  Run n = (done : List ℕ) × Counted tree events n (after tree events n) done

  well : (n : ℕ) → Accepted tree events n → Kept tree (parts_largest tree events n) n (after tree events n)
  well n ok = kept tree events n n (omega arith) ok

  next_counted : (n : ℕ) → Accepted tree events (suc n) → Run n → Run (suc n)
  next_counted n ok (done, so_far) =
      let before = fewer tree events n (suc n) (omega arith) ok in
      let wider = accepted_wider tree events n before in
      let keeps = well n before in
      turn tree events (suc n) ok n (omega arith) (λ box. (done : List ℕ) × Counted tree events (suc n) box done)
      (λ is fits. (done, arrival_counted tree ok.sound events _ wider n _ keeps done so_far is fits))
      (λ is none busy.
      let line = line_first tree ok.sound events _ wider n _ keeps done so_far busy in
      (done ++ line.first.place ∷ [], departure_counted tree ok.sound events _ wider n _ keeps done so_far busy line is))

  pub counted : (n : ℕ) → Accepted tree events n → Run n
  unfolding after
  counted zero ok = ([], fresh_counted tree events)
  counted (suc n) ok = next_counted n ok (counted n (fewer tree events n (suc n) (omega arith) ok))

  module _ (n : ℕ) (ok : Accepted tree events n) where
    pub order_sent : All (ForSender tree events) (after tree events n).order
    order_sent =
        let run = counted n ok in
        order_known tree ok.sound events _ (accepted_wider tree events n ok) n _ (well n ok) run.0 run.1

    -- what was sent of a class is where its arrivals begin
    pub order_first : (k : ℕ) → Sender tree k → (rest : List ℕ) × (only_for tree events k (after tree events n).order ++ rest ≡ arrivals_of tree events k n)
    order_first k sender =
        let run = counted n ok in
        order_prefix tree ok.sound events _ (accepted_wider tree events n ok) n _ (well n ok) run.0 run.1 k sender

    -- the packets that ever arrived are the finished ones and those that the root holds: none where the line is idle
    pub arrived_all : arrived tree events 0 n ≡ finish_count events n + held_by (after tree events n) 0
    arrived_all =
        let run = counted n ok in
        let all = all_packets tree ok.sound events run.0 run.1.done_sent in
        omega (arith, run.1.held_agree 0 ok.sound.some_rows, run.1.done_length, all)

    pub idle_line_holds_none : has_head (after tree events n).rows 0 ≡ false → held_by (after tree events n) 0 ≡ 0
    idle_line_holds_none idle =
        idle_holds_none tree ok.sound _ (accepted_wider tree events n ok) n _ (well n ok) 0 ok.sound.some_rows
        (has_false (after tree events n).rows 0 idle)

    pub busy_line_holds : has_head (after tree events n).rows 0 ≡ true → 0 < held_by (after tree events n) 0
    busy_line_holds busy =
        busy_holds tree ok.sound _ (accepted_wider tree events n ok) n _ (well n ok) 0 ok.sound.some_rows
        (has_true (after tree events n).rows 0 busy)
