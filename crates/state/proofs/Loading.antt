-- What is worked out of a state that was read is what the test of its rows asks for.
-- Assumes nothing.
use Prim.Native.Nat.{ℕ, ◌-◌}
use mathlib.Core.Path.{◌≡◌, sym, ap, ap₂, ◌∙◌}
use mathlib.Core.Bool.{Bool}
use mathlib.Core.List.{List}
use native.Mathlib.Omega.{arith}
use lib.ListN as lists
use lib.ListN.{get_or}
use Rattle.live_rules.specs.Layout.{held_at}
use Rattle.live_rules.specs.State.{Held, Live, queue, packets_at, live_with, live_in, gone}
use Rattle.live_rules.proofs.Packets.{packets_length}
use Rattle.soundness.specs.Trees.{Sums}
use Rattle.holding.specs.Packets.{first_word, first_size, FirstsTold}
use Rattle.holding.specs.Rows.{Matches, Loaded}
use Rattle.holding.specs.declared.Firsts.{Firsts}
use Rattle.state.specs.Opened.{Opened}
use Rattle.state.specs.Reading.{Read}
use Rattle.state.specs.declared.State.{State}

module _ (words : List ℕ) (s : State) (read : Read words s) where
  abbrev live : Live
  live = live_in words

  known : Opened live s
  known = read.opened

  packets_are : packets_at s.packets words ≡ live.packets
  unfolding live_in live_with
  packets_are = ap (λ (k : ℕ). packets_at k words) (known.packets ∙ packets_length (get_or words held_at 0) words)

  left_so : gone live ≡ s.accepted - s.packets
  unfolding gone
  left_so = sym (ap₂ (λ (a : ℕ) (b : ℕ). a - b) known.accepted known.packets)

  pub loaded :
      (firsts : Firsts) (sums : List ℕ) (marks : List Bool) → FirstsTold words s.packets firsts → Sums s.rows_count s.tree.parents s.counts.held sums
      → Matches s.tree.parents s.rows.heads s.rows.head_lengths s.rows.head_classes s.rows_count marks
      → Loaded s.rows_count (s.accepted - s.packets) s.tree s.senders s.rows s.counts (record { sums = sums; marks = marks; firsts = firsts }) live
  loaded firsts sums marks told added passed =
      let few = read.few_rows in
      record {
        rows_so = sym known.rows;
        left_so = left_so;
        parents_so = sym known.parents;
        shares_so = sym known.shares;
        senders_so = known.senders;
        starts_so = sym known.starts;
        finishes_so = sym known.finishes;
        virtuals_so = sym known.virtuals;
        heads_so = sym known.heads;
        head_lengths_so = sym known.head_lengths;
        head_classes_so = sym known.head_classes;
        bytes_so = sym known.bytes;
        held_so = sym known.held;
        since_so = sym known.since;
        parent_since_so = sym known.parent_since;
        sums_so = λ p below. added live.tree (sym known.parents) p (omega arith);
        marks_so = λ p below.
            passed live.tree live.rows (sym known.parents) (sym known.heads) (sym known.head_lengths) (sym known.head_classes) p
            (omega arith);
        counts_so = λ k below.
            told.count k (omega arith) ∙ ap (λ (packets : List Held). lists.length (queue packets k)) packets_are;
        firsts_so = λ k below. told.first k (omega arith) ∙ ap (λ (packets : List Held). first_word (queue packets k)) packets_are;
        sizes_so = λ k below. told.size k (omega arith) ∙ ap (λ (packets : List Held). first_size (queue packets k)) packets_are;
      }
