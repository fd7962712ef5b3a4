-- The test of a live state says what a sound live state has, and no more.
-- Assumes nothing.
use Prim.Native.Nat.{ℕ, zero, suc, ◌≤◌, ◌<◌}
use mathlib.Core.Path.{◌≡◌, sym, subst, ◌∙◌}
use mathlib.Core.Logic.{◌≢◌, ⊎_elim}
use mathlib.Core.Bool.{true}
use mathlib.Core.List.{List}
use native.Mathlib.Decide.{ℕ_discrete}
use native.Mathlib.Omega.{arith}
use lib.Dec.{leb}
use lib.ListN.{length, get_or}
use borrow.Author.Tests.{leb-true, le-leb}
use Rattle.input.specs.Limits.{most_rows, most_bytes}
use Rattle.rules.specs.Box.{Packet, Rows, head, head_length, queue_of}
use Rattle.laws.specs.Sound.{Sound, Kid, Inner, Sender}
use Rattle.laws.specs.Moves.{Full, SameHead, Settled}
use Rattle.laws.specs.Kept.{Kept, InLine, HeadOf, held_below}
use Rattle.laws.proofs.Tree.Depths.{sender_or_inner}
use Rattle.laws.proofs.Event.Keeping.{holds_head, holds_none}
use Rattle.live_rules.specs.Limits.{most_held, most_accepted}
use Rattle.live_rules.specs.State.{Live, queue, box_of, gone, events}
use Rattle.live_rules.specs.Soundness.{all, few, tree_sound, packets_sound, in_order, holding_sound, tags_sound, sizes_sound, counts_sound, row_sound, sound}
use Rattle.live_laws.specs.Holds.{RowsRowed, Shaped, Fitting, Counted, Holds}
use Rattle.live_rules.proofs.Alls.{both_true, true_both, all_true, true_all}
use Rattle.live_laws.proofs.TellingTree.{tree_holds, holds_tree}
use Rattle.live_laws.proofs.Queues.{queues_length, queues_at}
use Rattle.live_laws.proofs.TellingPackets.{packets_fit, fit_packets, fit_order, queue_in_line}
use Rattle.live_laws.proofs.TellingHeads.{Headed, head_first, sender_holds, sender_heads, sender_rests, inner_holds, idle_headed, below_idle, child_heads, heads_fit, sender_tells, inner_tells}
use Rattle.live_laws.proofs.TellingTags.{root_tags, tells_root, headed_tags, tells_tags, forward_tags, sizes_hold, hold_sizes, counts_hold, hold_counts}

-- ── the parts of the test ──

module _ (live : Live) where
  pub few_counted : few live ≡ true → Counted live
  unfolding few
  few_counted pass =
      let first = both_true (leb 1 live.tree.rows) _ pass in
      let second = both_true (leb live.tree.rows most_rows) _ first.1 in
      let third = both_true (leb (length live.packets) most_held) _ second.1 in
      let last = both_true (leb (length live.packets) live.accepted) (leb live.accepted most_accepted) third.1 in
      record {
        some_rows = leb-true 1 live.tree.rows first.0;
        few_rows = leb-true live.tree.rows most_rows second.0;
        few_held = leb-true (length live.packets) most_held third.0;
        held_accepted = leb-true (length live.packets) live.accepted last.0;
        few_accepted = leb-true live.accepted most_accepted last.1;
      }

  counted_few : Counted live → few live ≡ true
  unfolding few
  counted_few counted =
      true_both (leb 1 live.tree.rows) _ (le-leb 1 live.tree.rows counted.some_rows)
      (true_both (leb live.tree.rows most_rows) _ (le-leb live.tree.rows most_rows counted.few_rows)
      (true_both (leb (length live.packets) most_held) _ (le-leb (length live.packets) most_held counted.few_held)
      (true_both (leb (length live.packets) live.accepted) (leb live.accepted most_accepted)
      (le-leb (length live.packets) live.accepted counted.held_accepted) (le-leb live.accepted most_accepted counted.few_accepted))))

  row_parts :
      (r : ℕ) → row_sound live r ≡ true
      → (holding_sound live r ≡ true) × (tags_sound live.tree live.rows r ≡ true)
      × (sizes_sound live.tree (gone live) live.rows r ≡ true) × (counts_sound live r ≡ true)
  unfolding row_sound
  row_parts r pass =
      let first = both_true (holding_sound live r) _ pass in
      let second = both_true (tags_sound live.tree live.rows r) _ first.1 in
      let third = both_true (sizes_sound live.tree (gone live) live.rows r) (counts_sound live r) second.1 in
      (first.0, second.0, third.0, third.1)

  parts_row :
      (r : ℕ) → holding_sound live r ≡ true → tags_sound live.tree live.rows r ≡ true
      → sizes_sound live.tree (gone live) live.rows r ≡ true → counts_sound live r ≡ true → row_sound live r ≡ true
  unfolding row_sound
  parts_row r holding tags sizes counts =
      true_both (holding_sound live r) _ holding
      (true_both (tags_sound live.tree live.rows r) _ tags
      (true_both (sizes_sound live.tree (gone live) live.rows r) (counts_sound live r) sizes counts))

  sound_parts :
      sound live ≡ true
      → (few live ≡ true) × (tree_sound live.tree ≡ true) × (packets_sound live.tree live.packets ≡ true)
      × (in_order (events live) 0 live.packets ≡ true) × ((r : ℕ) → r < live.tree.rows → row_sound live r ≡ true)
  unfolding sound
  sound_parts pass =
      let first = both_true (few live) _ pass in
      let second = both_true (tree_sound live.tree) _ first.1 in
      let third = both_true (packets_sound live.tree live.packets) _ second.1 in
      let last = both_true (in_order (events live) 0 live.packets) (all live.tree.rows (row_sound live)) third.1 in
      (first.0, second.0, third.0, last.0, all_true live.tree.rows (row_sound live) last.1)

  parts_sound :
      few live ≡ true → tree_sound live.tree ≡ true → packets_sound live.tree live.packets ≡ true
      → in_order (events live) 0 live.packets ≡ true → ((r : ℕ) → r < live.tree.rows → row_sound live r ≡ true) → sound live ≡ true
  unfolding sound
  parts_sound counts tree packets order rows =
      true_both (few live) _ counts
      (true_both (tree_sound live.tree) _ tree
      (true_both (packets_sound live.tree live.packets) _ packets
      (true_both (in_order (events live) 0 live.packets) (all live.tree.rows (row_sound live)) order
      (true_all live.tree.rows (row_sound live) rows))))

-- ── the run's box ──

rows_full : (n : ℕ) (a : Rows) → RowsRowed n a → Full a
rows_full n a rowed =
    record {
      starts_full = rowed.starts.full;
      finishes_full = rowed.finishes.full;
      virtuals_full = rowed.virtuals.full;
      heads_full = rowed.heads.full;
      head_lengths_full = rowed.head_lengths.full;
      head_classes_full = rowed.head_classes.full;
    }

-- a class's queue in it is what the packets make
pub class_queue : (live : Live) → Sound live.tree → (k : ℕ) → Sender live.tree k → queue_of (box_of live) k ≡ queue live.packets k
unfolding box_of
class_queue live tree_ok k sender =
    queues_at live.packets most_rows k (let few_rows = tree_ok.few_rows in let inside = sender.inside in omega arith)

-- ── from the test ──

module _
    (live : Live) (shaped : Shaped live) (tree_ok : Sound live.tree) (fitting : Fitting live.tree (events live) 0 live.packets)
    (each : (r : ℕ) → r < live.tree.rows → row_sound live r ≡ true) where
  holding : (r : ℕ) → r < live.tree.rows → holding_sound live r ≡ true
  holding r inside = (row_parts live r (each r inside)).0

  tags : (r : ℕ) → r < live.tree.rows → tags_sound live.tree live.rows r ≡ true
  tags r inside = (row_parts live r (each r inside)).1

  lines : (k : ℕ) → InLine (events live) most_bytes 0 (queue live.packets k)
  lines = queue_in_line live.tree (events live) 0 live.packets fitting

  is_settled : Settled live.tree live.rows
  is_settled =
      let heads = heads_fit live tree_ok holding (events live) most_bytes lines in
      record {
        idle_below = below_idle live tree_ok holding;
        from_child = child_heads live tree_ok holding;
        of_sender = λ r inside has. (heads r inside has).of_sender;
        of_part = λ r inside has. (heads r inside has).of_part;
        no_length = λ r inside none. (idle_headed live tree_ok holding r inside none).1;
        some_length = λ r inside has. (heads r inside has).some_length;
        tagged = λ r positive inside has. headed_tags live.tree live.rows r positive (tags r inside) has;
      }

  small : (r : ℕ) → r < live.tree.rows → head_length live.rows r ≤ most_bytes
  small r inside = go (ℕ_discrete (head live.rows r) 0)
    where
      go : Dec (head live.rows r ≡ 0) → head_length live.rows r ≤ most_bytes
      go (yes none) = let is = idle_headed live tree_ok holding r inside none in omega arith
      go (no has) = (heads_fit live tree_ok holding (events live) most_bytes lines r inside has).few_length

  is_kept : Kept live.tree (λ (r : ℕ). most_bytes) (events live) (box_of live)
  unfolding box_of held_below
  is_kept =
      let root = root_tags live.tree live.rows (tags 0 tree_ok.some_rows) in
      record {
        rows_full = rows_full live.tree.rows live.rows shaped.rows;
        bytes_full = shaped.bytes.full;
        held_full = shaped.held.full;
        since_full = shaped.since.full;
        parent_since_full = shaped.parent_since.full;
        queues_full = queues_length live.packets most_rows;
        settled = is_settled;
        heads_small = small;
        queues_kept = λ k sender. subst (InLine (events live) most_bytes 0) (sym (class_queue live tree_ok k sender)) (lines k);
        heads_kept = λ k sender.
            subst (HeadOf live.rows k) (sym (class_queue live tree_ok k sender)) (sender_heads live tree_ok holding k sender);
        held_sender = λ k sender.
            subst (λ (q : List Packet). get_or live.held k 0 ≡ length q) (sym (class_queue live tree_ok k sender))
            (sender_holds live tree_ok holding k sender);
        held_inner = inner_holds live tree_ok holding;
        sender_virtual = sender_rests live tree_ok holding;
        root_start = root.0;
        root_finish = root.1;
      }

-- the counts need nothing of the lists: by them there are no more rows than can be
pub sound_counted : (live : Live) → sound live ≡ true → Counted live
sound_counted live pass = few_counted live (sound_parts live pass).0

pub sound_holds : (live : Live) → Shaped live → sound live ≡ true → Holds live
sound_holds live shaped pass =
    let (few_ok, tree_ok, packets_ok, order_ok, each) = sound_parts live pass in
    let counted = few_counted live few_ok in
    let treed = tree_holds live.tree counted.some_rows counted.few_rows shaped.identifiers tree_ok in
    let fitting = packets_fit live.tree (events live) 0 live.packets packets_ok order_ok in
    record {
      shaped = shaped;
      counted = counted;
      treed = treed;
      fitting = fitting;
      kept = is_kept live shaped treed.sound fitting each;
      classless = λ r inside none. (idle_headed live treed.sound (λ r inside. (row_parts live r (each r inside)).0) r inside none).2;
      sized =
          sizes_hold live.tree treed.sound live.rows (is_settled live shaped treed.sound fitting each) (gone live)
          (λ r inside. (row_parts live r (each r inside)).2);
      forward = λ r inside. forward_tags live.tree live.rows r (row_parts live r (each r inside)).1;
      marked = counts_hold live (λ r inside. (row_parts live r (each r inside)).3);
    }

-- ── to the test ──

module _ (live : Live) (holds : Holds live) where
  no_wider : (j : ℕ) → 0 < j → j < live.tree.rows → most_bytes ≤ most_bytes
  no_wider j positive inside = omega arith

  idle_as : (r : ℕ) → r < live.tree.rows → head live.rows r ≡ 0 → Headed live.rows r 0 0 0
  unfolding box_of
  idle_as r inside none = (none, holds.kept.settled.no_length r inside none, holds.classless r inside none)

  sender_passes : (k : ℕ) → Sender live.tree k → holding_sound live k ≡ true
  unfolding box_of
  sender_passes k sender =
      let queue_is = class_queue live holds.treed.sound k sender in
      sender_tells live k sender
      (subst (λ (q : List Packet). get_or live.held k 0 ≡ length q) queue_is (holds.kept.held_sender k sender))
      (head_first live.rows k (queue live.packets k) (subst (HeadOf live.rows k) queue_is (holds.kept.heads_kept k sender))
      (λ none. (idle_as k sender.inside none).1) (λ none. (idle_as k sender.inside none).2))
      (holds.kept.sender_virtual k sender)

  inner_passes : (p : ℕ) → Inner live.tree p → holding_sound live p ≡ true
  unfolding box_of held_below
  inner_passes p inner =
      inner_tells live p inner (holds.kept.held_inner p inner)
      (λ empty. idle_as p inner.inside
      (holds_none live.tree holds.treed.sound (λ r. most_bytes) no_wider (events live) (box_of live) holds.kept p inner.inside empty))
      took
    where
      took :
          get_or live.held p 0 ≢ 0
          → (t : ℕ) × Kid live.tree p t × (head live.rows t ≢ 0) × SameHead live.rows p live.rows t
      took some =
          let has =
          holds_head live.tree holds.treed.sound (λ r. most_bytes) no_wider (events live) (box_of live) holds.kept p inner.inside
          (omega arith) in
          let (t, kid, same) = holds.kept.settled.from_child p inner has in
          (t, kid, λ none. has (sym same.packet_same ∙ none), same)

  tags_pass : (r : ℕ) → r < live.tree.rows → tags_sound live.tree live.rows r ≡ true
  unfolding box_of
  tags_pass zero inside = tells_root live.tree live.rows holds.kept.root_start holds.kept.root_finish
  tags_pass (suc r) inside =
      tells_tags live.tree live.rows (suc r) (omega arith) (holds.kept.settled.tagged (suc r) (omega arith) inside)
      (holds.forward (suc r) inside)

  row_passes : (r : ℕ) → r < live.tree.rows → row_sound live r ≡ true
  unfolding box_of
  row_passes r inside =
      parts_row live r (⊎_elim (sender_passes r) (inner_passes r) (sender_or_inner live.tree holds.treed.sound r inside))
      (tags_pass r inside)
      (hold_sizes live.tree holds.treed.sound live.rows holds.kept.settled (gone live) holds.sized holds.kept.sender_virtual r inside)
      (hold_counts live holds.marked r inside)

pub holds_sound : (live : Live) → Holds live → sound live ≡ true
holds_sound live holds =
    parts_sound live (counted_few live holds.counted) (holds_tree live.tree holds.treed)
    (fit_packets live.tree (events live) 0 live.packets holds.fitting)
    (fit_order live.tree (events live) 0 live.packets holds.fitting) (row_passes live holds)
