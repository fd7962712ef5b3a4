-- Rows are sound where the tests over their lists hold.
-- Assumes nothing.
use Prim.Native.Nat.{ℕ, suc, ◌+◌, ◌<◌}
use mathlib.Core.Path.{◌≡◌, refl, sym, ap₂, ◌∙◌}
use mathlib.Core.Bool.{Bool, true, false, cond, not, ◌&&◌, and_assoc}
use mathlib.Core.List.{List, [], ◌∷◌}
use native.Mathlib.Decide.{ℕ_discrete}
use native.Mathlib.Omega.{arith}
use borrow.Author.Tests.{ne_eqb}
use lib.Dec.{leb, eqb}
use lib.ListN.{get_or}
use Rattle.input.specs.Classes.{Tree, share}
use Rattle.input.specs.Shares.{charge}
use Rattle.rules.specs.Box.{Packet, head, head_length, head_class, start, finish, has_head}
use Rattle.rules.specs.Box as run
use Rattle.arrays.specs.declared.TreeArrays.{TreeArrays}
use Rattle.arrays.specs.declared.RowArrays.{RowArrays}
use Rattle.arrays.specs.declared.CountArrays.{CountArrays}
use Rattle.holding.specs.declared.Walked.{Walked}
use Rattle.live_rules.specs.State.{Live, queue, gone}
use Rattle.live_rules.specs.Soundness.{all, headed, first_headed, sender_sound, inner_sound, holding_sound, tags_sound, level_most, untaken, sizes_sound, counts_sound, row_sound}
use Rattle.holding.specs.Packets.{first_word, first_size}
use Rattle.holding.specs.Row.{same_head, sender_test, inner_test, tags_test, most_at, tag_at, sizes_test, counts_test}
use Rattle.holding.specs.Rows.{senders_tested, inners_tested, tags_tested, sizes_tested, counts_tested, row_tested, Loaded}
use Rattle.live_rules.proofs.Alls.{all_same}

-- ── each test, of a live state's own lists ──

-- the first of a queue as a head, by its numbers
first_so :
    (rows : run.Rows) (k : ℕ) (q : List Packet)
    → first_headed rows k q
    ≡ same_head (head rows k) (head_length rows k) (head_class rows k) (first_word q) (first_size q) (cond (eqb (first_word q) 0) 0 k)
unfolding first_headed headed same_head first_word first_size
first_so rows k [] = refl
first_so rows k (packet ∷ later) = rw (ne_eqb (suc packet.place) 0 (λ e. omega arith))

tags_so :
    (tree : Tree) (rows : run.Rows) (r : ℕ)
    → tags_tested tree.shares rows.starts rows.finishes rows.heads rows.head_lengths r ≡ tags_sound tree rows r
unfolding tags_tested tags_test tags_sound has_head
tags_so tree rows r = go (ℕ_discrete r 0)
  where
    go :
        Dec (r ≡ 0)
        → cond (eqb r 0) (eqb (start rows r) 0 && eqb (finish rows r) 0)
        (cond (not (eqb (head rows r) 0)) (eqb (finish rows r) (start rows r + charge (head_length rows r) (share tree r))) (leb (start rows r) (finish rows r)))
        ≡ cond (eqb r 0) (eqb (start rows 0) 0 && eqb (finish rows 0) 0)
        (cond (not (eqb (head rows r) 0)) (eqb (finish rows r) (start rows r + charge (head_length rows r) (share tree r))) (leb (start rows r) (finish rows r)))
    go (yes same) = rw same
    go (no other) = rw (ne_eqb r 0 other)

sizes_so :
    (tree : Tree) (left : ℕ) (rows : run.Rows) (r : ℕ)
    → sizes_tested left tree.parents rows.starts rows.finishes rows.virtuals rows.heads rows.head_classes r
    ≡ sizes_sound tree left rows r
unfolding sizes_tested sizes_test most_at tag_at sizes_sound level_most untaken has_head
sizes_so tree left rows r = refl

counts_so : (live : Live) (r : ℕ) → counts_tested (gone live) live.tree.parents live.bytes live.since live.parent_since r ≡ counts_sound live r
unfolding counts_tested counts_test counts_sound
counts_so live r = refl

-- a test by whether a row sends is a test of those that do, and one of those that do not
parted : (b c d : Bool) → cond b c d ≡ (cond b c true && cond b true d)
parted true true d = refl
parted true false d = refl
parted false c d = refl

-- ── the lists that the code has ──

module _
    {n left : ℕ} {tree : TreeArrays} {senders : List Bool} {rows : RowArrays} {counts : CountArrays} {walked : Walked} {live : Live}
    (l : Loaded n left tree senders rows counts walked live) where
  sender_so :
      (r : ℕ) → r < n
      → sender_sound live r
      ≡ (eqb (get_or counts.held r 0) (get_or walked.firsts.counts r 0)
      && (same_head (get_or rows.heads r 0) (get_or rows.head_lengths r 0) (get_or rows.head_classes r 0) (get_or walked.firsts.words r 0) (get_or walked.firsts.sizes r 0)
      (cond (eqb (get_or walked.firsts.words r 0) 0) 0 r)
      && eqb (get_or rows.virtuals r 0) 0))
  unfolding sender_sound
  sender_so r below =
      rw (
        first_so live.rows r (queue live.packets r),
        l.counts_so r below,
        l.firsts_so r below,
        l.sizes_so r below,
        ← l.held_so,
        ← l.heads_so,
        ← l.head_lengths_so,
        ← l.head_classes_so,
        ← l.virtuals_so,
      )

  inner_so :
      (r : ℕ) → r < n
      → inner_sound live r
      ≡ (eqb (get_or counts.held r 0) (get_or walked.sums r 0)
      && cond (eqb (get_or counts.held r 0) 0) (same_head (get_or rows.heads r 0) (get_or rows.head_lengths r 0) (get_or rows.head_classes r 0) 0 0 0) (get_or walked.marks r false))
  unfolding inner_sound headed same_head
  inner_so r below =
      rw (
        l.sums_so r below,
        l.marks_so r below,
        ← l.held_so,
        ← l.heads_so,
        ← l.head_lengths_so,
        ← l.head_classes_so,
        ← l.rows_so,
      )

  holding_so :
      (r : ℕ) → r < n
      → holding_sound live r
      ≡ (senders_tested senders counts.held walked.firsts.counts rows.virtuals rows.heads rows.head_lengths rows.head_classes walked.firsts.words walked.firsts.sizes r
      && inners_tested senders counts.held walked.sums walked.marks rows.heads rows.head_lengths rows.head_classes r)
  unfolding holding_sound senders_tested inners_tested sender_test inner_test
  holding_so r below = rw (l.senders_so r below, sender_so r below, inner_so r below) (parted (get_or senders r false) _ _)

  tags_lists : (r : ℕ) → tags_sound live.tree live.rows r ≡ tags_tested tree.shares rows.starts rows.finishes rows.heads rows.head_lengths r
  tags_lists r =
      rw (← l.shares_so, ← l.starts_so, ← l.finishes_so, ← l.heads_so, ← l.head_lengths_so) (sym (tags_so live.tree live.rows r))

  sizes_lists :
      (r : ℕ) → sizes_sound live.tree (gone live) live.rows r ≡ sizes_tested left tree.parents rows.starts rows.finishes rows.virtuals rows.heads rows.head_classes r
  sizes_lists r =
      rw (← l.left_so, ← l.parents_so, ← l.starts_so, ← l.finishes_so, ← l.virtuals_so, ← l.heads_so, ← l.head_classes_so)
      (sym (sizes_so live.tree (gone live) live.rows r))

  counts_lists : (r : ℕ) → counts_sound live r ≡ counts_tested left tree.parents counts.bytes counts.since counts.parent_since r
  counts_lists r =
      rw (← l.left_so, ← l.parents_so, ← l.bytes_so, ← l.since_so, ← l.parent_since_so) (sym (counts_so live r))

  row_so : (r : ℕ) → r < n → row_sound live r ≡ row_tested left tree senders rows counts walked r
  unfolding row_sound
  row_so r below =
      ap₂ ◌&&◌ (holding_so r below) (ap₂ ◌&&◌ (tags_lists r) (ap₂ ◌&&◌ (sizes_lists r) (counts_lists r)))
      ∙ and_assoc (senders_tested senders counts.held walked.firsts.counts rows.virtuals rows.heads rows.head_lengths rows.head_classes walked.firsts.words walked.firsts.sizes r)
      (inners_tested senders counts.held walked.sums walked.marks rows.heads rows.head_lengths rows.head_classes r)
      _

  pub rows_so : all n (row_sound live) ≡ all n (row_tested left tree senders rows counts walked)
  rows_so = all_same n (row_sound live) (row_tested left tree senders rows counts walked) row_so
