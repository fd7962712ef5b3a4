-- The theorems on a run, said of the lent slices that it leaves: whatever was lent, where the answer's number is 0.
-- Assumes nothing.
use Prim.Native.Nat.{ℕ, suc, ◌+◌, ◌*◌, ◌%◌, ◌≤◌, ◌<◌}
use mathlib.Core.Path.{◌≡◌, sym, ◌∙◌, ap}
use mathlib.Core.Logic.{◌≢◌, ◌⊎◌}
use mathlib.Core.Bool.{cond}
use mathlib.Core.List.{List, map}
use native.Mathlib.Omega.{arith}
use lib.Dec.{eqb}
use lib.ListN.{length, get_or, take}
use lib.IntN.{pos}
use Rattle.input.specs.declared.Event.TheVariants.{Arrival}
use Rattle.input.specs.Limits.{report_words, whole, ticks, scale, packets_a_step}
use Rattle.input.specs.Classes.{Tree, tree_of, row_of, on_air, parent, share}
use Rattle.input.specs.Events.{Events, count, class_word, length_word, event}
use Rattle.input.specs.Refusals.{table_refused}
use Rattle.rules.specs.Steps.{after}
use Rattle.rules.specs.Outcome.{Lent, Outcome, room_of, Ran}
use Rattle.rules.specs.Promise.{finish_count, arrived, largest, packets_for, bytes_for, finished, finished_in, holds, Backlogged, line_most}
use Rattle.rules.specs.Promise.{ticks_for, no_ticks, Promised}
use Rattle.laws.specs.Sound.{ApartOnAir, Sender}
use Rattle.laws.specs.Rounding.{rounding, rounded_ticks, Exact}
use Rattle.laws.specs.History.{Accepted, largest_for, LagSince, arrivals_of, only_for}
use Rattle.laws.specs.Shorter.{cut}
use Rattle.laws.proofs.Tree.Trees.{table_passes, accepted}
use Rattle.laws.proofs.Tree.OnAir.{none_cut, apart_on_air}
use Rattle.laws.proofs.Run.History.{order_grows}
use Rattle.laws.proofs.Outcome.Shorter.{first_last, shorter_passes}
use Rattle.laws.proofs.Outcome.Shown as shown
use Rattle.laws.proofs.Outcome.Shown.{Ordered, Shown}
use Rattle.laws.proofs.Outcome.Results.{accepted_done, not_refused, count_is, order_is, word_is, lag_is}

-- the packets that a run put on the line, in their order
abbrev pub sent : Outcome → List ℕ
sent left = take left.answer.count left.order

-- word i of row r in the report that it left
abbrev pub reported : Outcome → ℕ → ℕ → ℕ
reported left r i = get_or left.report (report_words * r + i) 0

module _ (lent : Lent) (left : Outcome) (ran : Ran lent left) (done : left.answer.number ≡ 0) where
  abbrev tree : Tree
  tree = tree_of lent.table

  abbrev events : Events
  events = lent.events

  abbrev all : ℕ
  all = count lent.events

  ok : Accepted tree events all
  ok = accepted lent.table lent.events (room_of lent) (not_refused lent left ran done)

  -- ── where the box's words stand ──

  ordered : Ordered tree events all (sent left)
  ordered = record { accepted = ok; order_is = order_is lent left ran done }

  pub shows : Shown tree events all (sent left) left.report left.lags
  shows = record { ordered = ordered; word_is = word_is lent left ran done; lag_is = lag_is lent left ran done }

  -- ── identifiers ──

  table_fine : (table_refused lent.table).number ≡ 0
  table_fine = table_passes lent.table lent.events (room_of lent) (not_refused lent left ran done)

  -- cut to its low 16 bits, each identifier of the table is what it was
  pub none_cut_on_air : map on_air lent.table.identifiers ≡ lent.table.identifiers
  none_cut_on_air = none_cut lent.table table_fine

  -- so no two rows are one on the air
  pub rows_apart_on_air : ApartOnAir lent.table.identifiers
  rows_apart_on_air = apart_on_air lent.table table_fine

  -- ── the order ──

  pub count_sent : length (sent left) ≡ left.answer.count
  count_sent = ap length (order_is lent left ran done) ∙ sym (count_is lent left ran done)

  -- as many are finished as there were finishes; one more is on the line exactly where the report has packets held for the root
  pub finished_sent : left.answer.count ≡ finish_count events all + cond (eqb (reported left 0 4) 0) 0 1
  finished_sent = sym count_sent ∙ shown.finished_sent shows

  -- each word names an arrival of the list, for a sending class
  pub sent_arrived :
      (i packet : ℕ) → i < left.answer.count → get_or (sent left) i 0 ≡ packet
      → (packet < all) × (event events packet ≡ Arrival (class_word events packet) (length_word events packet))
      × Sender tree (row_of tree (class_word events packet))
  sent_arrived i packet inside = shown.sent_arrived ordered i packet (omega (arith, count_sent))

  -- no packet is sent twice
  pub sent_once : (i j : ℕ) → i < j → j < left.answer.count → get_or (sent left) i 0 ≢ get_or (sent left) j 0
  sent_once i j before inside = shown.sent_once ordered i j before (omega (arith, count_sent))

  -- what is sent of a class is the first of its arrivals, in their order
  pub sent_in_turn :
      (k : ℕ) → Sender tree k → only_for tree events k (sent left) ≡ take (length (only_for tree events k (sent left))) (arrivals_of tree events k all)
  sent_in_turn = shown.sent_in_turn ordered

  -- ── after every event: the run of the first n events ──

  module _ (n : ℕ) (earlier : n ≤ all) (shorter : Outcome) (ran_shorter : Ran (cut n lent) shorter) where
    pub cut_done : shorter.answer.number ≡ 0
    unfolding cut room_of
    cut_done =
        accepted_done (cut n lent) shorter ran_shorter
        (shorter_passes lent.table events n earlier (room_of lent) (not_refused lent left ran done))

    cut_count : shorter.answer.count ≡ length (after tree events n).order
    unfolding cut
    cut_count = count_is (cut n lent) shorter ran_shorter cut_done ∙ rw (first_last events n tree earlier)

    -- its order is where the whole order begins
    pub cut_sent : sent shorter ≡ take shorter.answer.count (sent left)
    unfolding cut
    cut_sent =
        order_is (cut n lent) shorter ran_shorter cut_done
        ∙ rw (first_last events n tree earlier, cut_count, order_is lent left ran done) (sym (order_grows tree events n all earlier ok))

    -- as many are finished by then as there were finishes; one more is on the line exactly where the root holds a packet
    pub finished_by_then : shorter.answer.count ≡ finish_count events n + cond (eqb (holds tree events (sent left) 0 n) 0) 0 1
    finished_by_then = cut_count ∙ shown.finished_by ordered n earlier

    -- the line is never idle: nothing is held, or fewer packets are finished than were sent
    pub never_idle_after : (holds tree events (sent left) 0 n ≡ 0) ⊎ (finish_count events n < shorter.answer.count)
    never_idle_after = rw cut_count (shown.never_idle_by ordered n earlier)

  -- ── the report ──

  pub bytes_reported : (r : ℕ) → r < tree.rows → reported left r 0 ≡ bytes_for tree events r (finished events (sent left) all)
  bytes_reported = shown.bytes_reported shows

  pub held_reported :
      (r : ℕ) → r < tree.rows → arrived tree events r all ≡ packets_for tree events r (finished events (sent left) all) + reported left r 4
  held_reported = shown.held_reported shows

  -- ── the promise on shares ──

  -- for any row that holds a packet after each event of a stretch, a class or the root, of which it says nothing new: two largest packets
  -- a step are enough, and ticks only where a share does not divide the scale
  pub share_is_rounded :
      (k a b : ℕ) → k < tree.rows → a ≤ b → b ≤ all → Backlogged tree events (sent left) k a b
      → Promised tree events (sent left) 2 (largest events all) (rounded_ticks tree events) k a b
  share_is_rounded = shown.share_is_rounded ordered

  pub share_is_two_packets :
      (k a b : ℕ) → k < tree.rows → a ≤ b → b ≤ all → Backlogged tree events (sent left) k a b
      → Promised tree events (sent left) 2 (largest events all) (ticks_for tree events) k a b
  share_is_two_packets = shown.share_is_two_packets ordered

  -- the number that is asked for
  pub share_is_a_number :
      (k a b : ℕ) → k < tree.rows → a ≤ b → b ≤ all → Backlogged tree events (sent left) k a b
      → Promised tree events (sent left) packets_a_step (largest events all) (ticks_for tree events) k a b
  share_is_a_number = shown.share_is_a_number ordered

  -- no tick is needed where every share on the row's own path divides the scale, whatever the others have
  pub exact_share_is_two_packets :
      (k a b : ℕ) → k < tree.rows → a ≤ b → b ≤ all → Backlogged tree events (sent left) k a b → Exact tree k
      → Promised tree events (sent left) 2 (largest events all) no_ticks k a b
  exact_share_is_two_packets = shown.exact_share_is_two_packets ordered

  pub exact_share_is_a_number :
      (k a b : ℕ) → k < tree.rows → a ≤ b → b ≤ all → Backlogged tree events (sent left) k a b → Exact tree k
      → Promised tree events (sent left) packets_a_step (largest events all) no_ticks k a b
  exact_share_is_a_number = shown.exact_share_is_a_number ordered

  -- it is a number: its denominator is above 0
  pub share_denominator :
      (packets largest : ℕ) (more : ℕ → ℕ) (k own : ℕ) → k < tree.rows → 0 < (line_most tree packets largest more k own).denominator
  share_denominator = shown.share_denominator ordered

  -- ── the worst-case fair index ──

  -- row k has a parent p, which chose at event i, since it finished a packet there or held none before; at event j a packet of k was
  -- finished, and k held packets all the while. What p finished after i up to j, times k's share, is at most what k finished, times the
  -- whole, and one largest packet of k's part, and the share times the difference of both largest packets; with a tick for each packet that
  -- k finished and one more, where its share does not divide the scale
  pub fair_index :
      (k i j : ℕ) → 0 < k → k < tree.rows → i < j → j < all → Backlogged tree events (sent left) k i j
      → (0 < bytes_for tree events (parent tree k) (finished_in events (sent left) i (suc i))) ⊎ (holds tree events (sent left) (parent tree k) i ≡ 0)
      → 0 < bytes_for tree events k (finished_in events (sent left) j (suc j))
      → ticks * (share tree k * (bytes_for tree events (parent tree k) (finished_in events (sent left) (suc i) (suc j)) + largest_for tree events k all))
      ≤ ticks
      * (share tree k * largest_for tree events (parent tree k) all
      + whole * (bytes_for tree events k (finished_in events (sent left) (suc i) (suc j)) + largest_for tree events k all))
      + share tree k * (rounding (share tree k) * suc (packets_for tree events k (finished_in events (sent left) (suc i) (suc j))))
  fair_index = shown.fair_index ordered

  -- ── lags ──

  -- while a class holds a packet its lag counts from the event that ended its last empty moment
  pub lag_counts_since :
      (r : ℕ) → 0 < r → r < tree.rows → 0 < reported left r 4 → LagSince tree events (sent left) r all (get_or left.lags r (pos 0))
  lag_counts_since = shown.lag_counts_since shows

  -- the root, and a class that holds nothing, have none
  pub lag_none : (r : ℕ) → r < tree.rows → (r ≡ 0) ⊎ (reported left r 4 ≡ 0) → get_or left.lags r (pos 0) ≡ pos 0
  lag_none = shown.lag_none shows

  -- every row has a last empty moment
  pub last_empty_moment :
      (r : ℕ) → r < tree.rows → (from : ℕ) × (from ≤ all) × (holds tree events (sent left) r from ≡ 0) × Backlogged tree events (sent left) r from all
  last_empty_moment = shown.last_empty_moment ordered

  -- no lag is above two largest packets and the ticks since then
  pub no_lag_above_two :
      (r from lagging : ℕ) → r < tree.rows → from ≤ all → holds tree events (sent left) r from ≡ 0 → Backlogged tree events (sent left) r from all
      → get_or left.lags r (pos 0) ≡ pos lagging
      → ticks * lagging ≤ ticks * (2 * whole * largest events all) + share tree r * ticks_for tree events (finished_in events (sent left) from all) r
  no_lag_above_two = shown.no_lag_above_two shows

  -- so none is above the three that are promised
  pub no_lag_above :
      (r from lagging : ℕ) → r < tree.rows → from ≤ all → holds tree events (sent left) r from ≡ 0 → Backlogged tree events (sent left) r from all
      → get_or left.lags r (pos 0) ≡ pos lagging
      → ticks * lagging
      ≤ ticks * (packets_a_step * whole * largest events all) + share tree r * ticks_for tree events (finished_in events (sent left) from all) r
  no_lag_above = shown.no_lag_above shows

  -- without ticks where the row's own share divides the scale
  pub no_exact_lag_above :
      (r lagging : ℕ) → r < tree.rows → scale % share tree r ≡ 0 → get_or left.lags r (pos 0) ≡ pos lagging
      → lagging ≤ 2 * whole * largest events all
  no_exact_lag_above = shown.no_exact_lag_above shows
