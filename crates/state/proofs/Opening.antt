-- A state whose lists were all read is the state in the words, and its parts are tested.
-- Assumes nothing.
use Prim.Native.Nat.{ℕ, ◌*◌, ◌-◌, ◌≤◌, ◌<◌}
use mathlib.Core.Path.{◌≡◌, sym, ap, ap₂, subst, ◌∙◌}
use mathlib.Core.Bool.{Bool, true, ◌&&◌}
use mathlib.Core.List.{List}
use native.Mathlib.Omega.{arith}
use lib.ListN.{length, get_or, take}
use Rattle.input.specs.Limits.{most_rows}
use Rattle.input.specs.Lent.{tree_with}
use Rattle.live_rules.specs.Limits.{most_held, most_accepted}
use Rattle.live_rules.specs.Layout.{rows_word, identifiers_at, parents_at, depths_at, shares_at, state_words, rows_at}
use Rattle.live_rules.specs.Layout.{starts_at, finishes_at, virtuals_at, heads_at, head_lengths_at, head_classes_at}
use Rattle.live_rules.specs.Layout.{bytes_at, held_at, since_at, parent_since_at}
use Rattle.live_rules.specs.State.{Live, packets_at, tree_in, rows_in, live_with, live_in, events}
use Rattle.live_rules.specs.Soundness.{all, tree_sound, packets_sound, in_order, row_sound}
use Rattle.live_rules.proofs.Rows.{rows_first}
use Rattle.live_rules.proofs.Packets.{packets_length}
use Rattle.live_laws.specs.Holds as holds
use Rattle.live_laws.proofs.Telling.{few_counted}
use Rattle.holding.specs.Packets.{Senders, PacketsTested, Ranged}
use Rattle.holding.proofs.Fitting.{sound_ranged}
use Rattle.state.specs.Opened.{Opened}
use Rattle.state.specs.Reading.{HasLists, Read}
use Rattle.state.specs.declared.State.{State}
use Rattle.state.proofs.Parts.{packets_so, rows_decide}

module _
    (words : List ℕ) (s : State) (long : state_words ≤ length words) (has : HasLists words s) where
  abbrev live : Live
  live = live_in words

  abbrev n : ℕ
  n = s.rows_count

  abbrev m : ℕ
  m = s.packets

  -- ── the counts ──

  rows_so : n ≡ live.tree.rows
  unfolding live_in live_with tree_in
  rows_so = has.rows

  packets_are : packets_at m words ≡ live.packets
  unfolding live_in live_with
  packets_are = ap (λ (k : ℕ). packets_at k words) has.packets

  held_so : m ≡ length live.packets
  held_so = sym (packets_length m words) ∙ ap length packets_are

  accepted_so : s.accepted ≡ live.accepted
  unfolding live_in live_with
  accepted_so = has.accepted

  events_so : 2 * s.accepted - m ≡ events live
  unfolding events
  events_so = ap₂ (λ (a : ℕ) (b : ℕ). 2 * a - b) accepted_so held_so

  counted : holds.Counted live
  counted = few_counted live has.few_so

  pub some_rows : 0 < n
  some_rows = let is = rows_so in let every = counted in omega arith

  pub few_rows : n ≤ most_rows
  few_rows = let is = rows_so in let every = counted in omega arith

  pub few_packets : m ≤ most_held
  few_packets = let is = held_so in let every = counted in omega arith

  pub arrived : m ≤ s.accepted
  arrived = let is = held_so in let same = accepted_so in let every = counted in omega arith

  pub few_accepted : s.accepted ≤ most_accepted
  few_accepted = let same = accepted_so in let every = counted in omega arith

  -- ── the lists ──

  -- a list of the first rows, by the word of their number
  counted_list : (at : ℕ) (xs : List ℕ) → xs ≡ rows_at at n words → xs ≡ rows_at at (get_or words rows_word 0) words
  counted_list at xs is = is ∙ ap (λ (k : ℕ). rows_at at k words) has.rows

  names_so : take n s.identifiers ≡ live.tree.identifiers
  unfolding live_in live_with tree_in
  names_so =
      let few = few_rows in
      let is = has.rows in
      ap₂ (λ (k : ℕ) (xs : List ℕ). take k xs) has.rows (counted_list identifiers_at s.identifiers has.tree.identifiers)
      ∙ rows_first identifiers_at (get_or words rows_word 0) words (omega arith)

  parents_so : s.tree.parents ≡ live.tree.parents
  unfolding live_in live_with tree_in
  parents_so = counted_list parents_at _ has.tree.parents

  depths_so : s.tree.depths ≡ live.tree.depths
  unfolding live_in live_with tree_in
  depths_so = counted_list depths_at _ has.tree.depths

  shares_so : s.tree.shares ≡ live.tree.shares
  unfolding live_in live_with tree_in
  shares_so = counted_list shares_at _ has.tree.shares

  -- which rows are sending classes
  sending : Senders live.tree n s.senders
  sending = has.sending live.tree (sym rows_so) (sym parents_so)

  opened : Opened live s
  unfolding live_in live_with rows_in
  opened =
      record {
        rows = rows_so;
        packets = held_so;
        accepted = accepted_so;
        identifiers = names_so;
        parents = parents_so;
        depths = depths_so;
        shares = shares_so;
        senders = sending;
        starts = counted_list starts_at _ has.starts;
        finishes = counted_list finishes_at _ has.finishes;
        virtuals = counted_list virtuals_at _ has.virtuals;
        heads = counted_list heads_at _ has.heads.heads;
        head_lengths = counted_list head_lengths_at _ has.heads.head_lengths;
        head_classes = counted_list head_classes_at _ has.heads.head_classes;
        bytes = counted_list bytes_at _ has.bytes;
        held = counted_list held_at _ has.heads.held;
        since = counted_list since_at _ has.since;
        parent_since = counted_list parent_since_at _ has.parent_since;
      }

  -- ── the tree ──

  pub tree_same : tree_sound (tree_with n (take n s.identifiers) s.tree.parents s.tree.depths s.tree.shares) ≡ tree_sound live.tree
  tree_same = ap tree_sound (rw (names_so, parents_so, depths_so, shares_so, rows_so))

  -- ── the packets ──

  -- the test of the packets, as the code has their numbers
  abbrev packets_tested : Bool
  packets_tested = packets_sound live.tree (packets_at m words) && in_order (2 * s.accepted - m) 0 (packets_at m words)

  packets_same : packets_tested ≡ packets_so live
  packets_same = rw (packets_are, events_so)

  pub packets_verdict :
      (b : Bool) → PacketsTested words m n s.senders (2 * s.accepted - m) b → b ≡ packets_so live
  packets_verdict b told = told live.tree (sym rows_so) sending ∙ packets_same

  ranged : packets_so live ≡ true → Ranged words m
  ranged pass =
      let is = rows_so in
      let few = few_rows in
      let most = few_accepted in
      sound_ranged live.tree s.senders (2 * s.accepted - m) words m (subst (λ (k : ℕ). Senders live.tree k s.senders) rows_so sending) (omega arith)
      (omega arith) (packets_same ∙ pass)

  -- ── the whole ──

  pub read_so : tree_sound live.tree ≡ true → packets_so live ≡ true → Read words s
  read_so tree_ok packets_ok =
      record {
        opened = opened;
        few_rows = few_rows;
        few_packets = few_packets;
        arrived = arrived;
        few_accepted = few_accepted;
        ranged = ranged packets_ok;
        inside = has.inside;
        decides = rows_decide live has.few_so tree_ok packets_ok ∙ ap (λ (k : ℕ). all k (row_sound live)) (sym rows_so);
      }
