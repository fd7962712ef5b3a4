-- The tests of all rows, over a list for each quantity.
use Rattle.std.specs.Prelude.{ℕ, ◌<◌, ◌≡◌, Bool, false, ◌&&◌, List, length, get_or}
use Rattle.input.specs.Limits.{most_rows}
use Rattle.input.specs.Classes.{Tree}
use Rattle.rules.specs.Box as run
use Rattle.arrays.specs.declared.TreeArrays.{TreeArrays}
use Rattle.arrays.specs.declared.RowArrays.{RowArrays}
use Rattle.arrays.specs.declared.CountArrays.{CountArrays}
use Rattle.holding.specs.declared.Walked.{Walked}
use Rattle.live_rules.specs.State.{Live, queue, gone}
use Rattle.live_rules.specs.Soundness.{all, any, children_sum, took_child, row_sound}
use Rattle.holding.specs.Packets.{Senders, first_word, first_size}
use Rattle.holding.specs.Row.{sender_test, inner_test, tags_test, sizes_test, counts_test}

-- ── the heads that were passed on ──

-- what `matches_of` states of its result: which rows have the head of one of their children among the first n
abbrev pub Matches : List ℕ → List ℕ → List ℕ → List ℕ → ℕ → List Bool → Type 0
Matches parents heads head_lengths head_classes n marks =
    (tree : Tree) (rows : run.Rows) → tree.parents ≡ parents → rows.heads ≡ heads → rows.head_lengths ≡ head_lengths
    → rows.head_classes ≡ head_classes → (p : ℕ) → p < most_rows → get_or marks p false ≡ any n (took_child tree rows p)

-- ── each test, row by row ──

unfoldable pub senders_tested : List Bool → List ℕ → List ℕ → List ℕ → List ℕ → List ℕ → List ℕ → List ℕ → List ℕ → ℕ → Bool
senders_tested senders held counts virtuals heads head_lengths head_classes firsts sizes r =
    sender_test (get_or senders r false) r (get_or held r 0) (get_or counts r 0) (get_or virtuals r 0) (get_or heads r 0) (get_or head_lengths r 0)
    (get_or head_classes r 0)
    (get_or firsts r 0)
    (get_or sizes r 0)

unfoldable pub inners_tested : List Bool → List ℕ → List ℕ → List Bool → List ℕ → List ℕ → List ℕ → ℕ → Bool
inners_tested senders held sums marks heads head_lengths head_classes r =
    inner_test (get_or senders r false) (get_or held r 0) (get_or sums r 0) (get_or marks r false) (get_or heads r 0) (get_or head_lengths r 0)
    (get_or head_classes r 0)

unfoldable pub tags_tested : List ℕ → List ℕ → List ℕ → List ℕ → List ℕ → ℕ → Bool
tags_tested shares starts finishes heads head_lengths r =
    tags_test r (get_or starts r 0) (get_or finishes r 0) (get_or heads r 0) (get_or head_lengths r 0) (get_or shares r 0)

unfoldable pub sizes_tested : ℕ → List ℕ → List ℕ → List ℕ → List ℕ → List ℕ → List ℕ → ℕ → Bool
sizes_tested left parents starts finishes virtuals heads head_classes r =
    sizes_test left r (get_or virtuals r 0) (get_or starts r 0) (get_or finishes r 0) (get_or heads r 0) (get_or head_classes r 0)
    (get_or heads (get_or parents r 0) 0)
    (get_or head_classes (get_or parents r 0) 0)

unfoldable pub counts_tested : ℕ → List ℕ → List ℕ → List ℕ → List ℕ → ℕ → Bool
counts_tested left parents bytes since parent_since r =
    counts_test left (get_or bytes r 0) (get_or since r 0) (get_or parent_since r 0) (get_or bytes (get_or parents r 0) 0)

-- ── the whole ──

-- all tests of a row
abbrev pub row_tested : ℕ → TreeArrays → List Bool → RowArrays → CountArrays → Walked → ℕ → Bool
row_tested left tree senders rows counts walked r =
    senders_tested senders counts.held walked.firsts.counts rows.virtuals rows.heads rows.head_lengths rows.head_classes walked.firsts.words
    walked.firsts.sizes
    r
    && (inners_tested senders counts.held walked.sums walked.marks rows.heads rows.head_lengths rows.head_classes r
    && (tags_tested tree.shares rows.starts rows.finishes rows.heads rows.head_lengths r
    && (sizes_tested left tree.parents rows.starts rows.finishes rows.virtuals rows.heads rows.head_classes r
    && counts_tested left tree.parents counts.bytes counts.since counts.parent_since r)))

-- these are the lists of a live state, with its sending classes, what children hold, heads passed on, and firsts of queues
pub record Loaded (n left : ℕ) (tree : TreeArrays) (senders : List Bool) (rows : RowArrays) (counts : CountArrays) (walked : Walked) (live : Live) : Type 0 where
  pub rows_so : live.tree.rows ≡ n
  pub left_so : gone live ≡ left
  pub parents_so : live.tree.parents ≡ tree.parents
  pub shares_so : live.tree.shares ≡ tree.shares
  pub senders_so : Senders live.tree n senders
  pub starts_so : live.rows.starts ≡ rows.starts
  pub finishes_so : live.rows.finishes ≡ rows.finishes
  pub virtuals_so : live.rows.virtuals ≡ rows.virtuals
  pub heads_so : live.rows.heads ≡ rows.heads
  pub head_lengths_so : live.rows.head_lengths ≡ rows.head_lengths
  pub head_classes_so : live.rows.head_classes ≡ rows.head_classes
  pub bytes_so : live.bytes ≡ counts.bytes
  pub held_so : live.held ≡ counts.held
  pub since_so : live.since ≡ counts.since
  pub parent_since_so : live.parent_since ≡ counts.parent_since
  pub sums_so : (p : ℕ) → p < n → get_or walked.sums p 0 ≡ children_sum live.tree counts.held p n
  pub marks_so : (p : ℕ) → p < n → get_or walked.marks p false ≡ any n (took_child live.tree live.rows p)
  pub counts_so : (k : ℕ) → k < n → get_or walked.firsts.counts k 0 ≡ length (queue live.packets k)
  pub firsts_so : (k : ℕ) → k < n → get_or walked.firsts.words k 0 ≡ first_word (queue live.packets k)
  pub sizes_so : (k : ℕ) → k < n → get_or walked.firsts.sizes k 0 ≡ first_size (queue live.packets k)

-- what `rows_sound` states of its result
abbrev pub RowsTested : (Live → Type 0) → ℕ → Bool → Type 0
RowsTested Read n b = (live : Live) → Read live → b ≡ all n (row_sound live)
