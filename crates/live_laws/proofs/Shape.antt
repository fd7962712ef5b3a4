-- Whatever is read from the words has its shape, sound or not.
-- Assumes nothing.
use Prim.Native.Nat.{ℕ, ◌+◌, ◌≤◌, ◌<◌}
use mathlib.Core.Path.{◌≡◌, refl, sym, ◌∙◌}
use mathlib.Core.List.{List}
use native.Mathlib.Omega.{arith}
use lib.ListN.{length, get_or}
use Rattle.input.specs.Limits.{most_rows}
use Rattle.live_rules.specs.Layout.{rows_word, identifiers_at, parents_at, depths_at, shares_at, state_words, rows_at}
use Rattle.live_rules.specs.Layout.{starts_at, finishes_at, virtuals_at, heads_at, head_lengths_at, head_classes_at}
use Rattle.live_rules.specs.Layout.{bytes_at, held_at, since_at, parent_since_at}
use Rattle.live_rules.specs.State.{tree_in, rows_in, live_with, live_in}
use Rattle.live_rules.proofs.Stretches.{words_length}
use Rattle.live_rules.proofs.Rows.{rows_length, rows_get, rows_zero}
use Rattle.live_rules.proofs.Packets.{packets_length}
use Rattle.live_laws.specs.Holds.{Rowed, Shaped}

pub rowed_in : (at n : ℕ) (words : List ℕ) → n ≤ most_rows → at + n ≤ length words → Rowed n (rows_at at n words)
rowed_in at n words few inside = record { full = rows_length at n words few inside; unused = rows_zero at n words inside }

module _ (n : ℕ) (words : List ℕ) (some : 0 < n) (few : n ≤ most_rows) (inside : state_words ≤ length words) where
  shaped_with : (m : ℕ) → m ≡ get_or words held_at 0 → Shaped (live_with n m words)
  unfolding live_with tree_in rows_in
  shaped_with m held =
      record {
        identifiers = words_length identifiers_at n words (omega arith);
        parents = rowed_in parents_at n words few (omega arith);
        depths = rowed_in depths_at n words few (omega arith);
        shares = rowed_in shares_at n words few (omega arith);
        rows =
            record {
              starts = rowed_in starts_at n words few (omega arith);
              finishes = rowed_in finishes_at n words few (omega arith);
              virtuals = rowed_in virtuals_at n words few (omega arith);
              heads = rowed_in heads_at n words few (omega arith);
              head_lengths = rowed_in head_lengths_at n words few (omega arith);
              head_classes = rowed_in head_classes_at n words few (omega arith);
            };
        bytes = rowed_in bytes_at n words few (omega arith);
        held = rowed_in held_at n words few (omega arith);
        since = rowed_in since_at n words few (omega arith);
        parent_since = rowed_in parent_since_at n words few (omega arith);
        held_all = rows_get held_at n words (omega arith) 0 some ∙ sym held ∙ sym (packets_length m words);
      }

pub shaped_in :
    (words : List ℕ) → state_words ≤ length words → 0 < get_or words rows_word 0 → get_or words rows_word 0 ≤ most_rows → Shaped (live_in words)
unfolding live_in
shaped_in words inside some few = shaped_with (get_or words rows_word 0) words some few inside (get_or words held_at 0) refl
