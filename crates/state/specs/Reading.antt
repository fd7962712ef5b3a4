-- What each part of the reading promises.
use Rattle.std.specs.Prelude.{ℕ, ◌+◌, ◌≤◌, ◌≡◌, Bool, true, false, ◌&&◌, List, Option, MatchOption, leb, get_or}
use Rattle.input.specs.Limits.{most_rows, most_depth, most_identifier, most_bytes, whole}
use Rattle.arrays.specs.declared.TreeArrays.{TreeArrays}
use Rattle.arrays.specs.declared.RowArrays.{RowArrays}
use Rattle.arrays.specs.declared.CountArrays.{CountArrays}
use Rattle.arrays.specs.Arrays.{Inside}
use Rattle.live_rules.specs.Limits.{most_held, most_accepted}
use Rattle.live_rules.specs.Layout.{rows_word, accepted_word, identifiers_at, parents_at, depths_at, shares_at, rows_at}
use Rattle.live_rules.specs.Layout.{starts_at, finishes_at, virtuals_at, heads_at, head_lengths_at, head_classes_at}
use Rattle.live_rules.specs.Layout.{bytes_at, held_at, since_at, parent_since_at}
use Rattle.live_rules.specs.State.{live_in}
use Rattle.live_rules.specs.Soundness.{all, row_sound, few, sound}
use Rattle.soundness.specs.Trees.{Senders}
use Rattle.holding.specs.Packets.{Ranged}
use Rattle.state.specs.Opened.{Opened}
use Rattle.state.specs.declared.State.{State}
use Rattle.state.specs.declared.counts.Counts.{Counts}

-- ── the counts ──

unfoldable pub counts_of : List ℕ → Counts
counts_of words =
    record {
      rows = get_or words rows_word 0;
      packets = get_or words held_at 0;
      accepted = get_or words accepted_word 0;
    }

-- the counts, or that they are more than there can be
abbrev pub Counted : List ℕ → Option Counts → Type 0
Counted words result =
    MatchOption result (few (live_in words) ≡ false) (λ counts. (few (live_in words) ≡ true) × (counts ≡ counts_of words))

-- ── the lists ──

-- the words of the first n rows from a place on are at most this
abbrev pub at_most : List ℕ → ℕ → ℕ → ℕ → Bool
at_most words n at most = all n (λ (i : ℕ). leb (get_or words (at + i) 0) most)

abbrev pub tree_small : List ℕ → ℕ → Bool
tree_small words n =
    at_most words n identifiers_at most_identifier
    && (at_most words n parents_at 255 && (at_most words n depths_at most_depth && at_most words n shares_at whole))

-- the largest word of 32 bits
abbrev pub largest_word : ℕ
largest_word = 4294967295

abbrev pub heads_small : List ℕ → ℕ → Bool
heads_small words n =
    at_most words n heads_at largest_word
    && (at_most words n head_lengths_at most_bytes && (at_most words n head_classes_at 255 && at_most words n held_at most_held))

-- group by group, each list is the words of the first n rows from its place on
pub record TreeFilled (words : List ℕ) (n : ℕ) (names : List ℕ) (tree : TreeArrays) : Type 0 where
  pub identifiers : names ≡ rows_at identifiers_at n words
  pub parents : tree.parents ≡ rows_at parents_at n words
  pub depths : tree.depths ≡ rows_at depths_at n words
  pub shares : tree.shares ≡ rows_at shares_at n words

pub record HeadsFilled (words : List ℕ) (n : ℕ) (rows : RowArrays) (counts : CountArrays) : Type 0 where
  pub heads : rows.heads ≡ rows_at heads_at n words
  pub head_lengths : rows.head_lengths ≡ rows_at head_lengths_at n words
  pub head_classes : rows.head_classes ≡ rows_at head_classes_at n words
  pub held : counts.held ≡ rows_at held_at n words

-- these stay
pub record HeadsStay (rows : RowArrays) (counts : CountArrays) (rows' : RowArrays) (counts' : CountArrays) : Type 0 where
  pub heads : rows'.heads ≡ rows.heads
  pub head_lengths : rows'.head_lengths ≡ rows.head_lengths
  pub head_classes : rows'.head_classes ≡ rows.head_classes
  pub held : counts'.held ≡ counts.held

pub record TagsFilled (words : List ℕ) (n : ℕ) (rows : RowArrays) (counts : CountArrays) (rows' : RowArrays) (counts' : CountArrays) : Type 0 where
  pub starts : rows'.starts ≡ rows_at starts_at n words
  pub finishes : rows'.finishes ≡ rows_at finishes_at n words
  pub virtuals : rows'.virtuals ≡ rows_at virtuals_at n words
  pub bytes : counts'.bytes ≡ rows_at bytes_at n words
  pub since : counts'.since ≡ rows_at since_at n words
  pub parent_since : counts'.parent_since ≡ rows_at parent_since_at n words
  pub stay : HeadsStay rows counts rows' counts'

-- a state that has all its lists: its parents are rows that there can be, and its sending classes are known
pub record HasLists (words : List ℕ) (r : State) : Type 0 where
  pub few_so : few (live_in words) ≡ true
  pub rows : r.rows_count ≡ get_or words rows_word 0
  pub packets : r.packets ≡ get_or words held_at 0
  pub accepted : r.accepted ≡ get_or words accepted_word 0
  pub tree : TreeFilled words r.rows_count r.identifiers r.tree
  pub heads : HeadsFilled words r.rows_count r.rows r.counts
  pub starts : r.rows.starts ≡ rows_at starts_at r.rows_count words
  pub finishes : r.rows.finishes ≡ rows_at finishes_at r.rows_count words
  pub virtuals : r.rows.virtuals ≡ rows_at virtuals_at r.rows_count words
  pub bytes : r.counts.bytes ≡ rows_at bytes_at r.rows_count words
  pub since : r.counts.since ≡ rows_at since_at r.rows_count words
  pub parent_since : r.counts.parent_since ≡ rows_at parent_since_at r.rows_count words
  pub inside : Inside r.tree.parents
  pub sending : Senders r.rows_count r.tree.parents r.senders

-- where the counts are too many or a word is too large, the state is not sound
abbrev pub Fills : List ℕ → Bool → State → Type 0
Fills words b r = (b ≡ false → sound (live_in words) ≡ false) × (b ≡ true → HasLists words r)

-- ── the state ──

-- a state that was read, sound in all but its rows
pub record Read (words : List ℕ) (r : State) : Type 0 where
  pub opened : Opened (live_in words) r
  pub few_rows : r.rows_count ≤ most_rows
  pub few_packets : r.packets ≤ most_held
  pub arrived : r.packets ≤ r.accepted
  pub few_accepted : r.accepted ≤ most_accepted
  pub ranged : Ranged words r.packets
  pub inside : Inside r.tree.parents
  pub decides : sound (live_in words) ≡ all r.rows_count (row_sound (live_in words))

-- what the test of the tree and the packets states of a state that has its lists
abbrev pub PartsTold : List ℕ → State → Bool → Type 0
PartsTold words r b = (b ≡ false → sound (live_in words) ≡ false) × (b ≡ true → Read words r)

-- where the first part of the test fails, the state is not sound
abbrev pub ReadTold : List ℕ → Bool → State → Type 0
ReadTold words b r = PartsTold words r b

-- what the test of the rows states of a state that was read
abbrev pub RowsDecide : List ℕ → State → Bool → Type 0
RowsDecide words r b = b ≡ sound (live_in words)
