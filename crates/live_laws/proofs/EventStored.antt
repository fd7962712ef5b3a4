-- What an event stores: the words of the tree and of how many rows there are stand already, and the packets come last.
-- Assumes nothing.
use Prim.Native.Nat.{ℕ, ◌+◌, ◌≤◌, ◌<◌}
use mathlib.Core.Path.{◌≡◌}
use mathlib.Core.List.{List, [], ◌∷◌}
use native.Mathlib.Omega.{arith}
use lib.ListN.{length, get_or, set, take, length-set, length-take}
use lib.Seq.{sets, set-get_or}
use Rattle.input.specs.Limits.{most_rows}
use Rattle.live_rules.specs.Layout.{rows_word, accepted_word, identifiers_at, parents_at, depths_at, shares_at, state_words, words_at, rows_at}
use Rattle.live_rules.specs.Layout.{starts_at, finishes_at, virtuals_at, heads_at, head_lengths_at, head_classes_at}
use Rattle.live_rules.specs.Layout.{bytes_at, held_at, since_at, parent_since_at, classes_at}
use Rattle.live_rules.specs.State.{Live, packets_at, tree_in, live_with, live_in}
use Rattle.live_rules.specs.State.{rows_stored, tree_stored, tags_stored, heads_stored, counts_stored, packets_stored, stored}
use Rattle.live_rules.proofs.Stretches.{words_fewer, words_late, sets_same}
use Rattle.live_rules.proofs.Rows.{rows_first}
use Rattle.live_rules.proofs.Packets.{packets_late}

module _ (words : List ℕ) (accepted : ℕ) where
  -- the words with another count of packets accepted
  abbrev counted : List ℕ
  counted = set words accepted_word accepted

  module _ (n : ℕ) (few : n ≤ most_rows) (inside : state_words ≤ length words) where
    stretch_kept : (at : ℕ) → 1 < at → at + n ≤ length words → sets counted at (words_at at n words) ≡ counted
    stretch_kept at behind within =
        let long = length-set words accepted_word accepted in
        rw (← words_late at n words accepted_word (accepted ∷ []) (omega arith)) (sets_same at n counted (omega arith))

    list_kept : (at : ℕ) → 1 < at → at + n ≤ length words → rows_stored at n (rows_at at n words) counted ≡ counted
    unfolding rows_stored
    list_kept at behind within = rw (rows_first at n words within) (stretch_kept at behind within)

    identifiers_kept : rows_stored identifiers_at n (words_at identifiers_at n words) counted ≡ counted
    unfolding rows_stored
    identifiers_kept = rw (words_fewer identifiers_at n n words (omega arith)) (stretch_kept identifiers_at (omega arith) (omega arith))

    tree_kept : tree_stored (tree_in n words) counted ≡ counted
    unfolding tree_stored tree_in
    tree_kept =
        rw (identifiers_kept, list_kept parents_at (omega arith) (omega arith), list_kept depths_at (omega arith) (omega arith))
        (list_kept shares_at (omega arith) (omega arith))

-- the tree stays: the count of packets accepted, the tags, the heads, the counts and the packets are stored
pub event_stored :
    (words : List ℕ) (live : Live) → state_words ≤ length words → (live_in words).tree.rows ≤ most_rows → live.tree ≡ (live_in words).tree
    → let n = (live_in words).tree.rows in
    stored live words
    ≡ packets_stored live.packets
    (counts_stored n live (heads_stored n live.rows (tags_stored n live.rows (sets words accepted_word (live.accepted ∷ [])))))
unfolding stored live_in live_with tree_in
event_stored words live inside few same =
    rw (same, set-get_or words 0 0, tree_kept words live.accepted (get_or words rows_word 0) few inside)

-- ── what is stored before the packets leaves them ──

list_before :
    (m at n : ℕ) (xs words : List ℕ) → n ≤ most_rows → at + most_rows ≤ classes_at → packets_at m (rows_stored at n xs words) ≡ packets_at m words
unfolding rows_stored
list_before m at n xs words few before = let short = length-take n xs in packets_late m words at (take n xs) (omega arith)

pub event_packets :
    (m n : ℕ) (live : Live) (words : List ℕ) → n ≤ most_rows
    → packets_at m (counts_stored n live (heads_stored n live.rows (tags_stored n live.rows (sets words accepted_word (live.accepted ∷ [])))))
    ≡ packets_at m words
unfolding counts_stored heads_stored tags_stored
event_packets m n live words few =
    rw (
      list_before m parent_since_at n live.parent_since _ few (omega arith),
      list_before m since_at n live.since _ few (omega arith),
      list_before m held_at n live.held _ few (omega arith),
      list_before m bytes_at n live.bytes _ few (omega arith),
      list_before m head_classes_at n live.rows.head_classes _ few (omega arith),
      list_before m head_lengths_at n live.rows.head_lengths _ few (omega arith),
      list_before m heads_at n live.rows.heads _ few (omega arith),
      list_before m virtuals_at n live.rows.virtuals _ few (omega arith),
      list_before m finishes_at n live.rows.finishes _ few (omega arith),
      list_before m starts_at n live.rows.starts _ few (omega arith),
    )
    (packets_late m words accepted_word (live.accepted ∷ []) (omega arith))
