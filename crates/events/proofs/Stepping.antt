-- One event of an accepted run: what its step may take for granted, and that the arrays are those of the next box then.
-- Assumes nothing.
use Prim.Native.Nat.{ℕ, suc, ◌+◌, ◌-◌, ◌≤◌, ◌<◌}
use mathlib.Core.Path.{◌≡◌, refl, sym, ap, ◌∙◌}
use mathlib.Core.Logic.{◌≢◌, ⊎_elim}
use mathlib.Core.Bool.{Bool, true, false, cond}
use mathlib.Core.List.{List, [], ◌∷◌, ◌++◌, tail}
use native.Mathlib.Omega.{arith}
use lib.Dec.{eqb, lit<}
use native.Mathlib.Numerals.{add-one}
use lib.ListN.{length, get_or, set, take, length-append}
use Rattle.input.specs.declared.Event.TheVariants.{Finish}
use Rattle.input.specs.Limits.{most_rows, most_bytes, most_events}
use Rattle.input.specs.Classes.{Tree, depth, row_of}
use Rattle.input.specs.Events.{Events, count, class_word, length_word, event}
use Rattle.input.specs.EventRows.{row_for}
use Rattle.rules.specs.Box.{Packet, Rows, Box, head, head_class, queue_of, line_class, left}
use Rattle.rules.specs.declared.Why.TheVariants.{Finished, Arrived}
use Rattle.rules.specs.Steps.{arrives as goes_in}
use Rattle.rules.specs.Steps.{new_head, up, leaves, renews, goes_on, arrival, departure, step, after}
use Rattle.input.specs.Refusals.{meeting_refused}
use Rattle.rules.specs.Refused.{idle, event_refused}
use Rattle.laws.specs.Sound.{Sound, Sender, ArrivalFits}
use Rattle.laws.specs.Moves.{Full, Settled, SameHead}
use Rattle.laws.specs.Kept.{Kept, HeadOf}
use Rattle.laws.specs.Named.{class_for}
use Rattle.laws.proofs.Level.Heads.{has_true, has_false}
use Rattle.laws.proofs.Tree.Trees.{arrival_fits, finish_fits}
use Rattle.laws.proofs.Event.Turns.{Arrives, met, fewer}
use Rattle.laws.proofs.Tree.Paths.{self_within}
use Rattle.laws.proofs.Path.DeparturePath.{leaves_on, leaves_idle}
use Rattle.laws.proofs.Path.Naming.{own_packet}
use Rattle.laws.proofs.Event.OneEvent.{line_sender, left_line}
use Rattle.laws.proofs.Event.Keeping.{class_head}
use Rattle.laws.proofs.Run.Sizes.{few, small_kept}
use Rattle.arrays.specs.Arrays.{has_head_of}
use Rattle.arrays.specs.declared.CountArrays.{CountArrays}
use Rattle.looking.proofs.Parts.{head_part}
use Rattle.choosing.specs.Filed.{Filing, Keeps}
use Rattle.choosing.specs.Sizes.{Leeway, most_charge}
use Rattle.choosing.proofs.Ticks.{less_leeway}
use Rattle.hierarchy.specs.Sizes.{most_climb}
use Rattle.hierarchy.specs.Next.{next_of}
use Rattle.hierarchy.specs.Climbing.{Climbs, front_row, front_rows}
use Rattle.hierarchy.proofs.Enough.{small_leeway, new_head_leeway}
use Rattle.hierarchy.proofs.Later.{renews_first, renews_leeway}
use Rattle.counts.specs.Counts.{Counts}
use Rattle.queues.specs.Words.{followed, shortened, length_of, sent_word}
use Rattle.steps.specs.Ready.{Ready}
use Rattle.steps.proofs.Leaving.{leaves_small}
use Rattle.events.specs.Links.{first_word, Chain}
use Rattle.events.specs.State.{Coming, Fronted}
use Rattle.events.proofs.Fits.{ready_now}
use Rattle.events.proofs.Links.{followed_beyond, last_before, first_before, chain_first, chain_length, joined, first_left}
use Rattle.queues.proofs.Words.{sent_arrived, sent_finished}
use Rattle.events.proofs.Sending.{order_most, order_more, sent_word_most}

module _
    {Filed : Filing} {tree : Tree} {events : Events} {i row sent_before : ℕ} {a : Rows} {c : CountArrays} {lasts links order : List ℕ}
    (coming : Coming Filed tree events i row sent_before a c lasts links order) where
  abbrev box : Box
  box = after tree events i

  sound : Sound tree
  sound = coming.fit.accepted.sound

  keeps : Kept tree few i box
  keeps = small_kept tree events i (fewer tree events i (count events) (omega (arith, coming.inside)) coming.fit.accepted)

  not_refused : (meeting_refused tree i (length_word events i) (event events i) (idle box)).number ≡ 0
  unfolding event_refused
  not_refused = coming.fit.accepted.each i coming.inside

  pub ready : Ready tree.parents tree.depths a c.bytes c.held
  ready = ready_now tree events coming.fit i (omega (arith, coming.inside)) coming.now

  -- how many packets have gone on the line: there is room for one more
  pub room : sent_before < length order
  room = omega (arith, coming.now.sent_are, coming.inside, coming.order_room, order_most tree events i)

  pub few_sent : sent_before < most_events
  few_sent = omega (arith, coming.now.sent_are, coming.inside, coming.fit.few, order_most tree events i)

  pub few_events : i < most_events
  few_events = omega (arith, coming.inside, coming.fit.few)

  pub inside_lengths : i < length events.lengths
  inside_lengths = omega (arith, coming.inside, coming.fit.as_long)

  -- ── which of the two it is ──

  fits : Arrives events i → ArrivalFits tree (class_word events i) (length_word events i)
  fits is = arrival_fits tree sound i (length_word events i) (class_word events i) (length_word events i) (idle box) (rw is at not_refused)

  row_arrives : Arrives events i → row ≡ row_of tree (class_word events i)
  unfolding row_for
  row_arrives is = coming.row_is ∙ ap (row_for tree) is

  -- a sending class is never in row 0
  pub finishes : row ≡ 0 → event events i ≡ Finish
  finishes none = ⊎_elim never (λ is. is) (met events i)
    where
      never : Arrives events i → event events i ≡ Finish
      never is = absurd (omega (arith, none, row_arrives is, (fits is).sender.positive))

  pub arrives : row ≢ 0 → Arrives events i
  unfolding row_for
  arrives some = ⊎_elim (λ is. is) (λ is. absurd (some (coming.row_is ∙ ap (row_for tree) is))) (met events i)

  -- ── an arrival ──

  module _ (is : Arrives events i) where
    sender : Sender tree row
    sender = rw (row_arrives is) (fits is).sender

    pub few_rows : row < most_rows
    few_rows = omega (arith, sender.inside, sound.few_rows)

    abbrev front : Rows
    front = front_rows tree i row (length_word events i) a

    abbrev from : ℕ
    from = front_row a.heads row

    pub few_from : from < most_rows
    unfolding front_row
    few_from = go (has_head_of a.heads row)
      where
        go : (b : Bool) → cond b 0 row < most_rows
        go true = omega arith
        go false = few_rows

    -- what an arrival leaves is what the way up leaves from there
    up_arrival : up (depth tree from) tree Arrived from front ≡ (arrival tree i row (length_word events i) box).rows
    unfolding arrival goes_in up front_rows front_row
    up_arrival = rw (coming.now.rows_are, head_part a row) (go (has_head_of a.heads row))
      where
        first : Rows
        first = new_head tree Arrived row (suc i) (length_word events i) row a

        go :
            (b : Bool)
            → up (depth tree (cond b 0 row)) tree Arrived (cond b 0 row) (cond b a first) ≡ cond b a (up (depth tree row) tree Arrived row first)
        go true = rw sound.root_depth
        go false = refl

    pub front_climbs : Keeps Filed → Climbs Filed tree (class_for tree events) front from (depth tree from)
    unfolding front_rows front_row
    front_climbs kept_filed = go (has_head_of a.heads row) refl
      where
        go :
            (b : Bool) → has_head_of a.heads row ≡ b
            → Climbs Filed tree (class_for tree events) (cond b a (new_head tree Arrived row (suc i) (length_word events i) row a)) (cond b 0 row)
            (depth tree (cond b 0 row))
        go true has = record { sound = sound; inside = sound.some_rows; deep = refl; filed = coming.now.filed }
        go false has =
            record {
              sound = sound;
              inside = sender.inside;
              deep = refl;
              filed =
                  kept_filed.headed tree sound (class_for tree events) Arrived row (suc i) (length_word events i) row a sender (has_false a row (head_part a row ∙ has))
                  (own_packet tree sound (class_for tree events) row (suc i) sender (sym (row_arrives is))) coming.now.filed;
            }

    pub front_leeway : Leeway most_climb front
    unfolding front_rows
    front_leeway = go (has_head_of a.heads row)
      where
        enough : Leeway (most_climb + most_charge) a
        enough = small_leeway (most_climb + most_charge) a (lit< tt) ready.small

        go : (b : Bool) → Leeway most_climb (cond b a (new_head tree Arrived row (suc i) (length_word events i) row a))
        go true = less_leeway (most_climb + most_charge) most_climb a (omega arith) enough
        go false = new_head_leeway most_climb tree a enough Arrived row (suc i) (length_word events i) row (fits is).few_bytes

    pub few_bytes : length_word events i ≤ most_bytes
    few_bytes = (fits is).few_bytes

    next_arrival : after tree events (suc i) ≡ arrival tree i row (length_word events i) box
    unfolding after step
    next_arrival = rw (is, row_arrives is)

    last_known : get_or lasts row 0 ≤ i
    last_known = rw (coming.now.linked.lasts_are row sender) (last_before i (few row) 0 (queue_of box row) (keeps.queues_kept row sender))

    -- the last packet of the class's queue came before
    pub last_inside : get_or lasts row 0 ≤ length links
    last_inside = omega (arith, last_known, coming.inside, coming.links_room)

    -- the line was idle or not
    abbrev on_line : Rows → List ℕ
    on_line b = sent_word (eqb (head a 0) 0) (head b 0)

    arrival_sent : (b : Rows) → (arrival tree i row (length_word events i) box).rows ≡ b → (after tree events (suc i)).order ≡ box.order ++ on_line b
    unfolding arrival
    arrival_sent b rows = rw next_arrival (ap (λ (xs : List ℕ). box.order ++ xs) (sent_arrived box.rows _ ∙ rw (rows, coming.now.rows_are)))

    pub arrived :
        {F : Type 0} (filed_by : F → Filing) → Keeps Filed → (from' : ℕ) (b : Rows) (c' : CountArrays) (lasts' links' : List ℕ) → from' ≡ from → b ≡ front
        → Counts (arrival tree i row (length_word events i) box) c'
        → lasts' ≡ set lasts row (i + 1) → links' ≡ followed links (get_or lasts row 0) (i + 1)
        → Fronted Filed filed_by tree events i sent_before order Arrived from' (depth tree from') (eqb (head a 0) 0) b c' lasts' links links'
    arrived filed_by kept_filed from' b c' lasts' links' begun fronted counts lasts_is links_is =
        record {
          climbs = rw (begun, fronted) (front_climbs kept_filed);
          leeway = rw fronted front_leeway;
          over = λ end f sent_after order' settles order_is sent_is.
              let rows : (arrival tree i row (length_word events i) box).rows ≡ end = sym (settles.rows_are ∙ rw (begun, fronted) up_arrival) in
              record {
                now =
                    record {
                      filed = settles.filed;
                      rows_are = rw next_arrival rows;
                      counts_are = rw next_arrival counts;
                      sent_are = rw (arrival_sent end rows, length-append, sent_is, coming.now.sent_are);
                      linked =
                          rw (next_arrival, lasts_is, links_is, add-one)
                          (joined tree sound events few i box keeps coming.inside lasts links coming.now.linked row (length_word events i) sender
                          (sym (row_arrives is)) refl coming.links_room);
                    };
                links_rest = rw links_is (followed_beyond links (get_or lasts row 0) (i + 1) (count events) (omega (arith, last_known, coming.inside)));
                order_on =
                    λ lent same was.
                    rw (arrival_sent end rows)
                    (order_more box.order (on_line end) lent order order' sent_before coming.now.sent_are room same (sent_word_most _ _) was order_is);
              };
        }

  -- ── a finish ──

  module _ (is : event events i ≡ Finish) where
    busy : head box.rows 0 ≢ 0
    busy = has_true box.rows 0 (finish_fits tree i (length_word events i) box (rw is at not_refused)).1

    line_sends : Sender tree (line_class box)
    line_sends = line_sender tree sound few i box keeps busy

    next_finish : after tree events (suc i) ≡ departure tree box
    unfolding after step
    next_finish = rw is

    -- the packet on the line is the first of its class's queue
    record Line : Type 0 where
      first : Packet
      later : List Packet
      queued : queue_of box (line_class box) ≡ first ∷ later
      named : head box.rows 0 ≡ suc first.place

    line : Line
    unfolding HeadOf
    line = go (queue_of box (line_class box)) refl (keeps.heads_kept (line_class box) line_sends)
      where
        same : SameHead box.rows 0 box.rows (line_class box)
        same = class_head tree sound box.rows keeps.settled 0 sound.some_rows busy

        go : (queue : List Packet) → queue_of box (line_class box) ≡ queue → HeadOf box.rows (line_class box) queue → Line
        go [] queued none = absurd (busy (sym same.packet_same ∙ none))
        go (first ∷ later) queued of = record { first = first; later = later; queued = queued; named = sym same.packet_same ∙ of.0 }

    chain : Chain tree events links (line_class box) (line.first ∷ line.later)
    chain = rw line.queued at (coming.now.linked.chains (line_class box) line_sends)

    rest : left box ≡ line.later
    rest = ap (λ (queue : List Packet). tail queue) line.queued

    head_is : head a 0 ≡ suc line.first.place
    head_is = ap (λ (rows : Rows). head rows 0) (sym coming.now.rows_are) ∙ line.named

    class_is : head_class a 0 ≡ line_class box
    class_is = rw coming.now.rows_are

    pub class_few : head_class a 0 < most_rows
    class_few = omega (arith, class_is, line_sends.inside, sound.few_rows)

    full : Full a
    full = rw (← coming.now.rows_are) keeps.rows_full

    settled : Settled tree a
    settled = rw (← coming.now.rows_are) keeps.settled

    pub head_some : 0 < head a 0
    head_some = omega (arith, head_is)

    head_before : head a 0 ≤ i
    unfolding first_word
    head_before = rw head_is (first_before i (few 0) 0 (line.first ∷ line.later) (rw line.queued at (keeps.queues_kept (line_class box) line_sends)))

    pub head_inside : head a 0 ≤ length links
    head_inside = omega (arith, head_before, coming.inside, coming.links_room)

    module _ (next : ℕ) (found : next ≡ get_or links (head a 0 - 1) 0) where
      next_is : next ≡ first_word line.later
      unfolding Chain
      next_is = let place : head a 0 - 1 ≡ line.first.place = omega (arith, head_is) in found ∙ rw place chain.0

      next_before : next ≤ i
      next_before = rw (next_is, ← rest) (first_before i (few 0) 0 (left box) (left_line tree sound few i box keeps busy))

      pub next_inside : next ≤ length events.lengths
      next_inside = omega (arith, next_before, inside_lengths)

      pub next_length : length_of events.lengths next ≤ most_bytes
      unfolding Chain
      next_length =
          rw next_is
          (chain_length tree events links (line_class box) i most_bytes 0 line.later (rw rest at (left_line tree sound few i box keeps busy)) chain.3)

      pub next_packet : take 1 (left box) ≡ next_of next (length_of events.lengths next)
      unfolding Chain
      next_packet = rw (next_is, rest) (chain_first tree events links (line_class box) line.later chain.3)

      departure_sent : (b : Rows) → (departure tree box).rows ≡ b → (after tree events (suc i)).order ≡ box.order ++ sent_word true (head b 0)
      unfolding departure
      departure_sent b rows =
          let none = leaves_idle tree sound box.rows keeps.rows_full keeps.settled busy [] tt in
          rw next_finish
          (ap (λ (xs : List ℕ). box.order ++ xs) (sent_finished (leaves tree (line_class box) box.rows) _ none ∙ rw rows))

      -- the packet leaves every row on its path, and then its class goes on with the next
      abbrev gone : Rows
      gone = leaves tree (line_class box) a

      abbrev onward : Rows
      onward = renews tree (line_class box) (left box) gone

      up_departure : up (depth tree (line_class box)) tree Finished (line_class box) onward ≡ (departure tree box).rows
      unfolding departure goes_on
      up_departure = rw coming.now.rows_are

      none_left : head gone (line_class box) ≡ 0
      none_left =
          (leaves_on tree sound a full (line_class box) line_sends.inside (line_class box) line_sends.inside (self_within tree sound (line_class box))).none

      gone_filed : Keeps Filed → Filed tree (class_for tree events) gone 0
      gone_filed kept_filed =
          rw (← class_is) (kept_filed.line_left tree sound (class_for tree events) a settled (λ e. busy (rw coming.now.rows_are e)) coming.now.filed)

      onward_filed : Keeps Filed → (later : List Packet) → Chain tree events links (line_class box) later → Filed tree (class_for tree events) (renews tree (line_class box) later gone) (line_class box)
      unfolding renews Chain
      onward_filed kept_filed [] linked = kept_filed.set_aside tree sound (class_for tree events) gone (line_class box) none_left (gone_filed kept_filed)
      onward_filed kept_filed (packet ∷ later) linked =
          kept_filed.headed tree sound (class_for tree events) Finished (line_class box) (suc packet.place) packet.length (line_class box) gone line_sends none_left
          (own_packet tree sound (class_for tree events) (line_class box) (suc packet.place) line_sends linked.1) (gone_filed kept_filed)

      pub onward_climbs : Keeps Filed → Climbs Filed tree (class_for tree events) onward (line_class box) (depth tree (line_class box))
      unfolding Chain
      onward_climbs kept_filed =
          record {
            sound = sound;
            inside = line_sends.inside;
            deep = refl;
            filed = rw rest (onward_filed kept_filed line.later chain.3);
          }

      onward_leeway : Leeway most_climb onward
      onward_leeway =
          let small = leaves_small tree (line_class box) a ready.small in
          let enough = small_leeway (most_climb + most_charge) gone (lit< tt) small in
          rw (renews_first, next_packet) (renews_leeway tree (line_class box) gone most_climb next (length_of events.lengths next) next_length enough)

      pub finished :
          {F : Type 0} (filed_by : F → Filing) → Keeps Filed → (class class' : ℕ) (b : Rows) (c' : CountArrays) (lasts' : List ℕ) → class' ≡ head_class a 0 → b ≡ renews tree class' (left box) (leaves tree class' a)
          → Counts (departure tree box) c'
          → class ≡ head_class a 0 → lasts' ≡ shortened lasts class next
          → Fronted Filed filed_by tree events i sent_before order Finished class' (depth tree class') true b c' lasts' links links
      finished filed_by kept_filed class class' b c' lasts' begun fronted counts class_read lasts_is =
          let at : class' ≡ line_class box = begun ∙ class_is in
          let on : b ≡ onward = fronted ∙ rw at in
          record {
            climbs = rw (at, on) (onward_climbs kept_filed);
            leeway = rw on onward_leeway;
            over = λ end f sent_after order' settles order_is sent_is.
                let rows : (departure tree box).rows ≡ end = sym (settles.rows_are ∙ rw (at, on) up_departure) in
                record {
                  now =
                      record {
                        filed = settles.filed;
                        rows_are = rw next_finish rows;
                        counts_are = rw next_finish counts;
                        sent_are = rw (departure_sent end rows, length-append, sent_is, coming.now.sent_are);
                        linked =
                            rw (next_finish, lasts_is, class_read, next_is, class_is)
                            (first_left tree sound events few i box keeps coming.inside lasts links coming.now.linked line.first line.later line_sends
                            line.queued);
                      };
                  links_rest = refl;
                  order_on =
                      λ lent same was.
                      rw (departure_sent end rows)
                      (order_more box.order (sent_word true (head end 0)) lent order order' sent_before coming.now.sent_are room same (sent_word_most _ _) was
                      order_is);
                };
          }
