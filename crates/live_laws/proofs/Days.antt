-- The theorems on a live box over any number of calls from a fresh state: over the events that it accepted, the others dropped.
-- Assumes nothing.
use Prim.Native.Nat.{ℕ, zero, suc, ◌+◌, ◌*◌, ◌≤◌, ◌<◌}
use mathlib.Core.Path.{◌≡◌, refl, sym, ap, subst₂, ◌∙◌}
use mathlib.Core.Logic.{◌≢◌, ◌⊎◌}
use mathlib.Core.Bool.{true}
use mathlib.Core.List.{List, append-nil}
use native.Mathlib.Decide.{ℕ_discrete}
use native.Mathlib.Omega.{arith}
use lib.ListN.{length, get_or, take}
use lib.IntN.{ℤ, pos}
use borrow.Author.Tests.{le-ltb, eq-eqb, ne_eqb}
use Rattle.input.specs.declared.Event.TheVariants.{Arrival}
use Rattle.input.specs.Limits.{report_words, whole, ticks, packets_a_step, most_events}
use Rattle.input.specs.Classes.{Table, Tree, tree_of, row_of, share}
use Rattle.input.specs.Events.{Events, count, class_word, length_word, event}
use Rattle.input.specs.Refusals.{Room, rows_refused, events_refused, room_refused, table_refused}
use Rattle.rules.specs.Box.{Box, held_by}
use Rattle.rules.specs.Steps.{after}
use Rattle.rules.specs.Refused.{event_refused, refused}
use Rattle.rules.specs.Outcome.{Lent, Outcome, Ran}
use Rattle.rules.specs.Promise.{finish_count, arrived, largest, packets_for, bytes_for, finished, finished_in, holds, Backlogged, line_most, ticks_for, no_ticks, Promised}
use Rattle.laws.specs.Sound.{Sender}
use Rattle.laws.specs.Rounding.{rounded_ticks, Exact}
use Rattle.laws.specs.History.{Accepted, LagSince, arrivals_of, only_for}
use Rattle.laws.proofs.Run.Counting.{arrived_all}
use Rattle.laws.proofs.Run.History.{holds_held, all_counted}
use Rattle.laws.proofs.Outcome.Run as run
use Rattle.laws.proofs.Outcome.Run.{sent, reported}
use Rattle.laws.proofs.Outcome.Shorter.{first_passes, below_passes, given_passes}
use Rattle.laws.proofs.Outcome.Shown as shown
use Rattle.laws.proofs.Outcome.Shown.{Shown}
use Rattle.live_rules.specs.Layout.{state_words}
use Rattle.live_rules.specs.State as state
use Rattle.live_rules.specs.State.{box_of, live_in}
use Rattle.live_rules.specs.Soundness.{sound}
use Rattle.live_rules.specs.Outcomes.{Left, fresh_outcome, event_outcome, Told, Tells}
use Rattle.live_laws.specs.Unordered.{unordered}
use Rattle.live_laws.specs.Calls.{accepted_of, sent_of, Calls}
use Rattle.live_laws.proofs.Telling.{holds_sound}
use Rattle.live_laws.proofs.Orders.{unordered_report, unordered_lag}
use Rattle.live_laws.proofs.Calls.{fresh_parts, refused_unchanged}
use Rattle.live_laws.proofs.Reports.{word_told, lag_told}
use Rattle.live_laws.proofs.Agreeing.{Agrees, fresh_agrees, taken_agrees}

-- ── there are such calls ──

-- the words after the first n events
unfoldable pub words_after : Table → List ℕ → Events → ℕ → List ℕ
words_after table lent events zero = (fresh_outcome table lent).words
words_after table lent events (suc n) =
    (event_outcome (words_after table lent events n) (class_word events n) (length_word events n)).words

-- of any events on any state that is made
pub calls_of :
    (table : Table) (lent : List ℕ) (events : Events) (n : ℕ) → (fresh_outcome table lent).answer.number ≡ 0 → Calls table lent events n
unfolding words_after
calls_of table lent events n done =
    record {
      made_answer = (fresh_outcome table lent).answer;
      words = words_after table lent events;
      answers = λ i. (event_outcome (words_after table lent events i) (class_word events i) (length_word events i)).answer;
      made = refl;
      done = done;
      each = λ i before. refl;
    }

-- ── the theorems ──

module _ {table : Table} {lent : List ℕ} {events : Events} {n : ℕ} (calls : Calls table lent events n) where
  abbrev tree : Tree
  tree = tree_of table

  -- the events that were accepted, and the packets that went on the line
  abbrev kept : Events
  kept = accepted_of events calls.answers n

  abbrev order : List ℕ
  order = sent_of calls.answers n

  abbrev all : ℕ
  all = count kept

  -- ── after each call ──

  abbrev So : ℕ → Type 0
  So m = Agrees tree (calls.words m) (accepted_of events calls.answers m) (sent_of calls.answers m)

  next : (m : ℕ) → m < n → So m → So (suc m)
  unfolding accepted_of sent_of
  next m below so_far = go (ℕ_discrete (calls.answers m).number 0)
    where
      left : Left
      left = record { answer = calls.answers m; words = calls.words (suc m) }

      go : Dec ((calls.answers m).number ≡ 0) → So (suc m)
      go (yes done) =
          rw (eq-eqb (calls.answers m).number 0 done)
          (taken_agrees tree (calls.words m) (accepted_of events calls.answers m) (sent_of calls.answers m) so_far (class_word events m)
          (length_word events m) left (calls.each m below) done)
      go (no some) =
          let (same, none, nameless) = refused_unchanged (calls.words m) (class_word events m) (length_word events m) left (calls.each m below) some in
          rw (ne_eqb (calls.answers m).number 0 some, eq-eqb (calls.answers m).count 0 none, append-nil, same) so_far

  agrees : (m : ℕ) → m ≤ n → So m
  unfolding accepted_of sent_of
  agrees zero early = fresh_agrees table lent (record { answer = calls.made_answer; words = calls.words 0 }) calls.made calls.done
  agrees (suc m) early = next m early (agrees m (omega arith))

  -- the calls before any of them are such calls too
  pub first_calls : (m : ℕ) → m ≤ n → Calls table lent events m
  first_calls m early =
      record {
        made_answer = calls.made_answer;
        words = calls.words;
        answers = calls.answers;
        made = calls.made;
        done = calls.done;
        each = λ i before. calls.each i (omega arith);
      }

  pub always_sound : (i : ℕ) → i ≤ n → sound (live_in (calls.words i)) ≡ true
  always_sound i early = holds_sound (live_in (calls.words i)) (agrees i early).holds

  last : So n
  last = agrees n (omega arith)

  -- ── the state, and what it was ──

  -- the events that were accepted are a list that the run's rules accept
  pub kept_accepted : Accepted tree kept all
  kept_accepted = last.ordered.accepted

  -- the packets on the line are the run's order
  pub order_is : order ≡ (after tree kept all).order
  order_is = last.ordered.order_is

  -- the state is the run's box, of the table's tree, but for the order; and it counts the events
  pub state_is :
      ((live_in (calls.words n)).tree ≡ tree) × (box_of (live_in (calls.words n)) ≡ unordered (after tree kept all))
      × (state.events (live_in (calls.words n)) ≡ all)
  state_is = (last.tree_is, last.box_is, last.events_are)

  -- it counts the packets that were accepted, and holds those that are not finished
  pub held_counted : length (live_in (calls.words n)).packets ≡ holds tree kept order 0 all
  unfolding box_of unordered
  held_counted =
      sym last.holds.shaped.held_all
      ∙ ap (λ (box : Box). held_by box 0) last.box_is
      ∙ rw order_is (sym (holds_held tree kept all all 0 (omega arith) kept_accepted kept_accepted.sound.some_rows))

  pub accepted_counted : (live_in (calls.words n)).accepted ≡ arrived tree kept 0 all
  unfolding state.events
  accepted_counted =
      let fewer = last.holds.counted.held_accepted in
      let total = last.events_are in
      let each = all_counted tree kept all kept_accepted in
      let arrivals = arrived_all tree kept all kept_accepted in
      let held = rw order_is at held_counted in
      let counted = holds_held tree kept all all 0 (omega arith) kept_accepted kept_accepted.sound.some_rows in
      omega arith

  -- ── the run accepts them ──

  made_passes : ((rows_refused table).number ≡ 0) × (state_words ≤ length lent) × ((table_refused table).number ≡ 0)
  made_passes = fresh_parts table lent (record { answer = calls.made_answer; words = calls.words 0 }) calls.made calls.done

  -- the run accepts what the live box accepted, where it takes so many events and has the room
  pub run_accepts :
      (room : Room) → count kept ≤ most_events → (room_refused (length table.identifiers) (count kept) room).number ≡ 0
      → (refused table kept room).number ≡ 0
  unfolding refused events_refused
  run_accepts room few fits =
      first_passes _ (
        made_passes.0,
        (
          given_passes _ 2 0 (rw (eq-eqb (length kept.lengths) (count kept) last.even, le-ltb most_events (count kept) few)),
          (fits, (made_passes.2, (below_passes (event_refused tree kept) all kept_accepted.each, tt))),
        ),
      )

  -- ── the order ──

  -- each word names an event that was accepted, an arrival for a sending class
  pub sent_arrived :
      (i packet : ℕ) → i < length order → get_or order i 0 ≡ packet
      → (packet < all) × (event kept packet ≡ Arrival (class_word kept packet) (length_word kept packet))
      × Sender tree (row_of tree (class_word kept packet))
  sent_arrived = shown.sent_arrived last.ordered

  -- no packet is sent twice
  pub sent_once : (i j : ℕ) → i < j → j < length order → get_or order i 0 ≢ get_or order j 0
  sent_once = shown.sent_once last.ordered

  -- what is sent of a class is the first of its arrivals, in their order
  pub sent_in_turn :
      (k : ℕ) → Sender tree k → only_for tree kept k order ≡ take (length (only_for tree kept k order)) (arrivals_of tree kept k all)
  sent_in_turn = shown.sent_in_turn last.ordered

  -- the line is never idle: nothing is held, or fewer packets are finished than were sent
  pub never_idle : (holds tree kept order 0 all ≡ 0) ⊎ (finish_count kept all < length order)
  never_idle = rw order_is (rw order_is at (shown.never_idle_by last.ordered all (omega arith)))

  -- ── the promise on shares, with the largest packet so far ──

  -- for any row that holds a packet after each event of a stretch: two largest packets a step are enough, and ticks only where a share does
  -- not divide the scale
  pub share_is_rounded :
      (k a b : ℕ) → k < tree.rows → a ≤ b → b ≤ all → Backlogged tree kept order k a b
      → Promised tree kept order 2 (largest kept all) (rounded_ticks tree kept) k a b
  share_is_rounded = shown.share_is_rounded last.ordered

  pub share_is_two_packets :
      (k a b : ℕ) → k < tree.rows → a ≤ b → b ≤ all → Backlogged tree kept order k a b
      → Promised tree kept order 2 (largest kept all) (ticks_for tree kept) k a b
  share_is_two_packets = shown.share_is_two_packets last.ordered

  -- the number that is asked for
  pub share_is_a_number :
      (k a b : ℕ) → k < tree.rows → a ≤ b → b ≤ all → Backlogged tree kept order k a b
      → Promised tree kept order packets_a_step (largest kept all) (ticks_for tree kept) k a b
  share_is_a_number = shown.share_is_a_number last.ordered

  -- no tick is needed where every share on the row's own path divides the scale, whatever the others have
  pub exact_share_is_two_packets :
      (k a b : ℕ) → k < tree.rows → a ≤ b → b ≤ all → Backlogged tree kept order k a b → Exact tree k
      → Promised tree kept order 2 (largest kept all) no_ticks k a b
  exact_share_is_two_packets = shown.exact_share_is_two_packets last.ordered

  pub exact_share_is_a_number :
      (k a b : ℕ) → k < tree.rows → a ≤ b → b ≤ all → Backlogged tree kept order k a b → Exact tree k
      → Promised tree kept order packets_a_step (largest kept all) no_ticks k a b
  exact_share_is_a_number = shown.exact_share_is_a_number last.ordered

  -- it is a number: its denominator is above 0
  pub share_denominator :
      (packets largest : ℕ) (more : ℕ → ℕ) (k own : ℕ) → k < tree.rows → 0 < (line_most tree packets largest more k own).denominator
  share_denominator = shown.share_denominator last.ordered

  -- every row has a last empty moment
  pub last_empty_moment :
      (r : ℕ) → r < tree.rows → (from : ℕ) × (from ≤ all) × (holds tree kept order r from ≡ 0) × Backlogged tree kept order r from all
  last_empty_moment = shown.last_empty_moment last.ordered

  -- ── the report and the lags ──

  module _
      (report : List ℕ) (lags : List ℤ) (told : Told) (tells : Tells (calls.words n) report lags told) (told_done : told.answer.number ≡ 0) where
    -- word i of row r in the report
    abbrev told_of : ℕ → ℕ → ℕ
    told_of r i = get_or told.report (report_words * r + i) 0

    shows : Shown tree kept all order told.report told.lags
    shows =
        let rows = ap (λ (t : Tree). t.rows) last.tree_is in
        record {
          ordered = last.ordered;
          word_is = λ r i inside word.
              rw (last.box_is, last.tree_is, unordered_report tree (after tree kept all) r)
              at (word_told (calls.words n) report lags told tells told_done r i (omega arith) word);
          lag_is = λ r inside.
              rw (last.box_is, last.tree_is, unordered_lag tree (after tree kept all) r)
              at (lag_told (calls.words n) report lags told tells told_done r (omega arith));
        }

    pub bytes_reported : (r : ℕ) → r < tree.rows → told_of r 0 ≡ bytes_for tree kept r (finished kept order all)
    bytes_reported = shown.bytes_reported shows

    pub held_reported : (r : ℕ) → r < tree.rows → arrived tree kept r all ≡ packets_for tree kept r (finished kept order all) + told_of r 4
    held_reported = shown.held_reported shows

    -- while a class holds a packet its lag counts from the event that ended its last empty moment
    pub lag_counts_since : (r : ℕ) → 0 < r → r < tree.rows → 0 < told_of r 4 → LagSince tree kept order r all (get_or told.lags r (pos 0))
    lag_counts_since = shown.lag_counts_since shows

    -- the root, and a class that holds nothing, have none
    pub lag_none : (r : ℕ) → r < tree.rows → (r ≡ 0) ⊎ (told_of r 4 ≡ 0) → get_or told.lags r (pos 0) ≡ pos 0
    lag_none = shown.lag_none shows

    pub no_lag_above :
        (r from lagging : ℕ) → r < tree.rows → from ≤ all → holds tree kept order r from ≡ 0 → Backlogged tree kept order r from all
        → get_or told.lags r (pos 0) ≡ pos lagging
        → ticks * lagging
        ≤ ticks * (packets_a_step * whole * largest kept all) + share tree r * ticks_for tree kept (finished_in kept order from all) r
    no_lag_above = shown.no_lag_above shows

  -- ── agreement with the run ──

  -- of any run of the same table with the events that were accepted, where it is done
  module _
      (run_lent : Lent) (left : Outcome) (same_table : run_lent.table ≡ table) (same_events : run_lent.events ≡ kept) (ran : Ran run_lent left)
      (run_done : left.answer.number ≡ 0) where
    run_shows : Shown tree kept all (sent left) left.report left.lags
    run_shows =
        subst₂ (λ (t : Table) (es : Events). Shown (tree_of t) es (count es) (sent left) left.report left.lags) same_table same_events
        (run.shows run_lent left ran run_done)

    pub same_order : sent left ≡ order
    same_order = shown.same_order run_shows.ordered last.ordered

    -- and of any report of the state
    module _
        (report : List ℕ) (lags : List ℤ) (told : Told) (tells : Tells (calls.words n) report lags told) (told_done : told.answer.number ≡ 0) where
      pub same_report : (r i : ℕ) → r < tree.rows → i < report_words → get_or told.report (report_words * r + i) 0 ≡ reported left r i
      same_report = shown.same_word (shows report lags told tells told_done) run_shows

      pub same_lags : (r : ℕ) → r < tree.rows → get_or told.lags r (pos 0) ≡ get_or left.lags r (pos 0)
      same_lags = shown.same_lag (shows report lags told tells told_done) run_shows
