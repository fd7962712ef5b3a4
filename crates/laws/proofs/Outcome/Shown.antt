-- The theorems on an order, a report and lags that show the box after some accepted events, whoever shows them: a run, or a live box.
-- Assumes nothing.
use Prim.Native.Nat.{ℕ, suc, ◌+◌, ◌*◌, ◌%◌, ◌≤◌, ◌<◌}
use mathlib.Core.Path.{◌≡◌, sym, ◌∙◌, ap, subst}
use mathlib.Core.Logic.{◌≢◌, ◌⊎◌, inl, inr}
use mathlib.Core.Bool.{Bool, true, false, cond, not}
use mathlib.Core.List.{List}
use native.Mathlib.Decide.{ℕ_discrete}
use native.Mathlib.Nat.{le_refl, mul-le-mul_right}
use native.Mathlib.Omega.{arith}
use lib.Dec.{eqb}
use lib.ListN.{length, get_or, take}
use lib.IntN.{ℤ, pos}
use borrow.Author.Tests.{ne_eqb}
use Rattle.input.specs.declared.Event.TheVariants.{Arrival}
use Rattle.input.specs.Limits.{report_words, whole, ticks, scale, packets_a_step}
use Rattle.input.specs.Classes.{Tree, row_of, parent, share}
use Rattle.input.specs.Events.{Events, class_word, length_word, event}
use Rattle.rules.specs.Box.{held_by}
use Rattle.rules.specs.Steps.{after}
use Rattle.rules.specs.Outcome.{row_report, lag}
use Rattle.rules.specs.Promise.{finish_count, arrived, largest, packets_for, bytes_for, finished, finished_in, holds, Backlogged, line_most}
use Rattle.rules.specs.Promise.{ticks_for, no_ticks, Promised}
use Rattle.laws.specs.Sound.{Sender}
use Rattle.laws.specs.Rounding.{rounding, rounded_ticks, Exact}
use Rattle.laws.specs.History.{Accepted, largest_for, LagSince, arrivals_of, only_for}
use Rattle.laws.proofs.Tree.Trees.{rounding_most, rounding_none}
use Rattle.laws.proofs.Event.Turns.{fewer}
use Rattle.laws.proofs.Run.History.{bytes_counted, held_counted, holds_held, order_length, first_in_first_out, once}
use Rattle.laws.proofs.Run.Idle.{busy_is_held}
use Rattle.laws.proofs.Run.Sent.{order_arrived}
use Rattle.laws.proofs.Share.Promise.{promised, no_lag}
use Rattle.laws.proofs.Share.LineMost.{denominator_some, more_promised}
use Rattle.laws.proofs.Share.Lags.{lag_since, last_empty, lag_most}
use Rattle.laws.proofs.Share.Index.{counted_index}

-- the order after so many accepted events
pub record Ordered (tree : Tree) (events : Events) (all : ℕ) (order : List ℕ) : Type 0 where
  pub accepted : Accepted tree events all
  pub order_is : order ≡ (after tree events all).order

-- with the words of the report and the lags of the rows in use
pub record Shown (tree : Tree) (events : Events) (all : ℕ) (order report : List ℕ) (lags : List ℤ) : Type 0 where
  pub ordered : Ordered tree events all order
  pub word_is :
      (r i : ℕ) → r < tree.rows → i < report_words
      → get_or report (report_words * r + i) 0 ≡ get_or (row_report tree (after tree events all) r) i 0
  pub lag_is : (r : ℕ) → r < tree.rows → get_or lags r (pos 0) ≡ lag tree (after tree events all) r

-- ── two that show the same box ──

pub same_order :
    {tree : Tree} {events : Events} {all : ℕ} {order other : List ℕ} → Ordered tree events all order → Ordered tree events all other → order ≡ other
same_order one two = one.order_is ∙ sym two.order_is

module _
    {tree : Tree} {events : Events} {all : ℕ} {order other report other_report : List ℕ} {lags other_lags : List ℤ}
    (one : Shown tree events all order report lags) (two : Shown tree events all other other_report other_lags) where
  pub same_word :
      (r i : ℕ) → r < tree.rows → i < report_words → get_or report (report_words * r + i) 0 ≡ get_or other_report (report_words * r + i) 0
  same_word r i inside word = one.word_is r i inside word ∙ sym (two.word_is r i inside word)

  pub same_lag : (r : ℕ) → r < tree.rows → get_or lags r (pos 0) ≡ get_or other_lags r (pos 0)
  same_lag r inside = one.lag_is r inside ∙ sym (two.lag_is r inside)

-- ── the order ──

-- one for a busy line
line_count : (b : Bool) (n size : ℕ) → size ≡ n + cond (not b) 1 0 → size ≡ n + cond b 0 1
line_count true n size is = is
line_count false n size is = is

module _ {tree : Tree} {events : Events} {all : ℕ} {order : List ℕ} (ordered : Ordered tree events all order) where
  ok : Accepted tree events all
  ok = ordered.accepted

  order_left : order ≡ (after tree events all).order
  order_left = ordered.order_is

  pub sent_arrived :
      (i packet : ℕ) → i < length order → get_or order i 0 ≡ packet
      → (packet < all) × (event events packet ≡ Arrival (class_word events packet) (length_word events packet))
      × Sender tree (row_of tree (class_word events packet))
  sent_arrived i packet inside is = rw (← is, order_left) (order_arrived tree events all ok i (rw order_left at inside))

  pub sent_once : (i j : ℕ) → i < j → j < length order → get_or order i 0 ≢ get_or order j 0
  sent_once i j before inside = rw order_left (once tree events all i j ok before (rw order_left at inside))

  pub sent_in_turn :
      (k : ℕ) → Sender tree k → only_for tree events k order ≡ take (length (only_for tree events k order)) (arrivals_of tree events k all)
  sent_in_turn k sender = rw order_left (first_in_first_out tree events all k ok sender)

  -- ── after the first n events ──

  module _ (n : ℕ) (earlier : n ≤ all) where
    pub finished_by : length (after tree events n).order ≡ finish_count events n + cond (eqb (holds tree events order 0 n) 0) 0 1
    finished_by =
        let so_far = fewer tree events n all earlier ok in
        rw (order_left, holds_held tree events n all 0 earlier ok ok.sound.some_rows)
        (line_count (eqb (held_by (after tree events n) 0) 0) _ _ (rw (busy_is_held tree events n so_far) at (order_length tree events n so_far)))

    pub never_idle_by : (holds tree events order 0 n ≡ 0) ⊎ (finish_count events n < length (after tree events n).order)
    never_idle_by = go (ℕ_discrete (holds tree events order 0 n) 0)
      where
        go : Dec (holds tree events order 0 n ≡ 0) → (holds tree events order 0 n ≡ 0) ⊎ (finish_count events n < length (after tree events n).order)
        go (yes none) = inl none
        go (no some) = inr (omega (arith, rw (ne_eqb (holds tree events order 0 n) 0 some) at finished_by))

  -- ── the promise on shares ──

  pub share_is_rounded :
      (k a b : ℕ) → k < tree.rows → a ≤ b → b ≤ all → Backlogged tree events order k a b
      → Promised tree events order 2 (largest events all) (rounded_ticks tree events) k a b
  share_is_rounded k a b inside before ended =
      subst (λ (order : List ℕ). Backlogged tree events order k a b → Promised tree events order 2 (largest events all) (rounded_ticks tree events) k a b)
      (sym order_left) (promised tree events all ok k a b inside before ended)

  pub share_is_two_packets :
      (k a b : ℕ) → k < tree.rows → a ≤ b → b ≤ all → Backlogged tree events order k a b
      → Promised tree events order 2 (largest events all) (ticks_for tree events) k a b
  unfolding rounded_ticks
  share_is_two_packets k a b inside before ended backlogged =
      more_promised tree ok.sound events order 2 2 (largest events all) (rounded_ticks tree events) (ticks_for tree events) k a b inside (omega arith)
      (λ r positive on.
      let one = mul-le-mul_right (ticks_for tree events (finished_in events order a b) r) (rounding_most (share tree r)) in
      omega arith)
      (share_is_rounded k a b inside before ended backlogged)

  pub share_is_a_number :
      (k a b : ℕ) → k < tree.rows → a ≤ b → b ≤ all → Backlogged tree events order k a b
      → Promised tree events order packets_a_step (largest events all) (ticks_for tree events) k a b
  share_is_a_number k a b inside before ended backlogged =
      more_promised tree ok.sound events order 2 packets_a_step (largest events all) (ticks_for tree events) (ticks_for tree events) k a b inside
      (omega arith) (λ r positive on. le_refl _)
      (share_is_two_packets k a b inside before ended backlogged)

  -- no tick is needed where every share on the row's own path divides the scale
  pub exact_share_is_two_packets :
      (k a b : ℕ) → k < tree.rows → a ≤ b → b ≤ all → Backlogged tree events order k a b → Exact tree k
      → Promised tree events order 2 (largest events all) no_ticks k a b
  unfolding rounded_ticks no_ticks
  exact_share_is_two_packets k a b inside before ended backlogged exact =
      more_promised tree ok.sound events order 2 2 (largest events all) (rounded_ticks tree events) no_ticks k a b inside (omega arith)
      (λ r positive on. rw (rounding_none (share tree r) (exact r positive on)) (omega arith))
      (share_is_rounded k a b inside before ended backlogged)

  pub exact_share_is_a_number :
      (k a b : ℕ) → k < tree.rows → a ≤ b → b ≤ all → Backlogged tree events order k a b → Exact tree k
      → Promised tree events order packets_a_step (largest events all) no_ticks k a b
  exact_share_is_a_number k a b inside before ended backlogged exact =
      more_promised tree ok.sound events order 2 packets_a_step (largest events all) no_ticks no_ticks k a b inside (omega arith)
      (λ r positive on. le_refl _)
      (exact_share_is_two_packets k a b inside before ended backlogged exact)

  pub share_denominator :
      (packets largest : ℕ) (more : ℕ → ℕ) (k own : ℕ) → k < tree.rows → 0 < (line_most tree packets largest more k own).denominator
  share_denominator packets largest more = denominator_some tree ok.sound packets largest more

  pub fair_index :
      (k i j : ℕ) → 0 < k → k < tree.rows → i < j → j < all → Backlogged tree events order k i j
      → (0 < bytes_for tree events (parent tree k) (finished_in events order i (suc i))) ⊎ (holds tree events order (parent tree k) i ≡ 0)
      → 0 < bytes_for tree events k (finished_in events order j (suc j))
      → ticks * (share tree k * (bytes_for tree events (parent tree k) (finished_in events order (suc i) (suc j)) + largest_for tree events k all))
      ≤ ticks
      * (share tree k * largest_for tree events (parent tree k) all
      + whole * (bytes_for tree events k (finished_in events order (suc i) (suc j)) + largest_for tree events k all))
      + share tree k * (rounding (share tree k) * suc (packets_for tree events k (finished_in events order (suc i) (suc j))))
  fair_index k i j positive inside = rw order_left (counted_index tree events all ok k i j positive inside)

  pub last_empty_moment :
      (r : ℕ) → r < tree.rows → (from : ℕ) × (from ≤ all) × (holds tree events order r from ≡ 0) × Backlogged tree events order r from all
  last_empty_moment r inside = rw order_left (last_empty tree events all ok r inside)

-- ── the report and the lags ──

module _ {tree : Tree} {events : Events} {all : ℕ} {order report : List ℕ} {lags : List ℤ} (shown : Shown tree events all order report lags) where
  abbrev ordered : Ordered tree events all order
  ordered = shown.ordered

  -- word i of row r in the report
  abbrev reported : ℕ → ℕ → ℕ
  reported r i = get_or report (report_words * r + i) 0

  held_left : (r : ℕ) → r < tree.rows → reported r 4 ≡ held_by (after tree events all) r
  unfolding row_report
  held_left r inside = shown.word_is r 4 inside (omega arith)

  -- what is reported to be held is what the events and the order count
  pub held_shown : (r : ℕ) → r < tree.rows → get_or report (report_words * r + 4) 0 ≡ holds tree events order r all
  held_shown r inside = held_left r inside ∙ rw (order_left ordered) (sym (holds_held tree events all all r (omega arith) (ok ordered) inside))

  -- one packet is on the line exactly where the report has packets held for the root
  pub finished_sent : length order ≡ finish_count events all + cond (eqb (get_or report (report_words * 0 + 4) 0) 0) 0 1
  finished_sent =
      ap length (order_left ordered) ∙ rw (held_shown 0 (ok ordered).sound.some_rows) (finished_by ordered all (omega arith))

  pub bytes_reported : (r : ℕ) → r < tree.rows → get_or report (report_words * r + 0) 0 ≡ bytes_for tree events r (finished events order all)
  unfolding row_report
  bytes_reported r inside =
      shown.word_is r 0 inside (omega arith) ∙ rw (order_left ordered) (bytes_counted tree events all all r (omega arith) (ok ordered) inside)

  pub held_reported :
      (r : ℕ) → r < tree.rows
      → arrived tree events r all ≡ packets_for tree events r (finished events order all) + get_or report (report_words * r + 4) 0
  held_reported r inside = rw (held_left r inside, order_left ordered) (held_counted tree events all all r (omega arith) (ok ordered) inside)

  pub lag_counts_since :
      (r : ℕ) → 0 < r → r < tree.rows → 0 < get_or report (report_words * r + 4) 0 → LagSince tree events order r all (get_or lags r (pos 0))
  lag_counts_since r positive inside holding =
      rw (shown.lag_is r inside, order_left ordered) (lag_since tree events all (ok ordered) r positive inside (rw (held_left r inside) at holding))

  pub lag_none : (r : ℕ) → r < tree.rows → (r ≡ 0) ⊎ (get_or report (report_words * r + 4) 0 ≡ 0) → get_or lags r (pos 0) ≡ pos 0
  lag_none r inside quiet = shown.lag_is r inside ∙ no_lag tree events all (ok ordered) r all (rw (held_left r inside) at quiet)

  -- no lag is above two largest packets and the rounding since the last empty moment
  lag_rounded :
      (r from lagging : ℕ) → r < tree.rows → from ≤ all → holds tree events order r from ≡ 0 → Backlogged tree events order r from all
      → get_or lags r (pos 0) ≡ pos lagging
      → ticks * lagging
      ≤ ticks * (2 * whole * largest events all) + share tree r * rounded_ticks tree events (finished_in events order from all) r
  lag_rounded r from lagging inside earlier =
      rw (order_left ordered, shown.lag_is r inside) (lag_most tree events all (ok ordered) r from lagging inside earlier)

  pub no_lag_above_two :
      (r from lagging : ℕ) → r < tree.rows → from ≤ all → holds tree events order r from ≡ 0 → Backlogged tree events order r from all
      → get_or lags r (pos 0) ≡ pos lagging
      → ticks * lagging ≤ ticks * (2 * whole * largest events all) + share tree r * ticks_for tree events (finished_in events order from all) r
  unfolding rounded_ticks
  no_lag_above_two r from lagging inside earlier empty backlogged is =
      let rounded = lag_rounded r from lagging inside earlier empty backlogged is in
      let since = ticks_for tree events (finished_in events order from all) r in
      let one = mul-le-mul_right (share tree r * since) (rounding_most (share tree r)) in
      omega arith

  pub no_lag_above :
      (r from lagging : ℕ) → r < tree.rows → from ≤ all → holds tree events order r from ≡ 0 → Backlogged tree events order r from all
      → get_or lags r (pos 0) ≡ pos lagging
      → ticks * lagging
      ≤ ticks * (packets_a_step * whole * largest events all) + share tree r * ticks_for tree events (finished_in events order from all) r
  no_lag_above r from lagging inside earlier empty backlogged is =
      let two = no_lag_above_two r from lagging inside earlier empty backlogged is in
      omega arith

  pub no_exact_lag_above :
      (r lagging : ℕ) → r < tree.rows → scale % share tree r ≡ 0 → get_or lags r (pos 0) ≡ pos lagging → lagging ≤ 2 * whole * largest events all
  unfolding rounded_ticks
  no_exact_lag_above r lagging inside exact is =
      let (from, earlier, empty, backlogged) = last_empty_moment ordered r inside in
      let rounded = rw (rounding_none (share tree r) exact) at (lag_rounded r from lagging inside earlier empty backlogged is) in
      omega arith
