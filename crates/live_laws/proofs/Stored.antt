-- A live state that is stored is read again.
-- Assumes nothing.
use Prim.Native.Nat.{ℕ, ◌+◌, ◌≤◌, ◌<◌}
use mathlib.Core.Path.{◌≡◌, refl, sym, ap, ◌∙◌}
use mathlib.Core.List.{List, [], ◌∷◌, map}
use native.Mathlib.Omega.{arith}
use lib.ListN.{length, get_or, take, length-take, length-map}
use lib.Seq.{length-take-le, take_all}
use Rattle.input.specs.Limits.{most_rows}
use Rattle.live_rules.specs.Limits.{most_held}
use Rattle.live_rules.specs.Layout.{rows_word, accepted_word, identifiers_at, parents_at, depths_at, shares_at, state_words, words_at, rows_at}
use Rattle.live_rules.specs.Layout.{starts_at, finishes_at, virtuals_at, heads_at, head_lengths_at, head_classes_at}
use Rattle.live_rules.specs.Layout.{bytes_at, held_at, since_at, parent_since_at, classes_at, lengths_at, names_at}
use Rattle.live_rules.specs.State.{Held, Live, packets_at, tree_in, rows_in, live_with, live_in}
use Rattle.live_rules.specs.State.{rows_stored, tree_stored, tags_stored, heads_stored, counts_stored, packets_stored, stored}
use Rattle.live_rules.proofs.Stretches.{words_get}
use Rattle.live_rules.proofs.Rows.{rows_of, rows_get}
use Rattle.live_rules.proofs.Packets.{packets_of}
use Rattle.live_laws.specs.Holds.{Rowed, Shaped, Counted}
use Rattle.live_laws.proofs.Chain.{Stretch, chain, Rising, chain_length, chain_read}

abbrev stretch : ℕ → List ℕ → Stretch
stretch at list = record { at = at; list = list }

-- all that is stored, in the order of the words
unfoldable stretches : Live → List Stretch
stretches live =
    let n = live.tree.rows in
    stretch rows_word (n ∷ live.accepted ∷ [])
    ∷ stretch identifiers_at (take n live.tree.identifiers)
    ∷ stretch parents_at (take n live.tree.parents)
    ∷ stretch depths_at (take n live.tree.depths)
    ∷ stretch shares_at (take n live.tree.shares)
    ∷ stretch starts_at (take n live.rows.starts)
    ∷ stretch finishes_at (take n live.rows.finishes)
    ∷ stretch virtuals_at (take n live.rows.virtuals)
    ∷ stretch heads_at (take n live.rows.heads)
    ∷ stretch head_lengths_at (take n live.rows.head_lengths)
    ∷ stretch head_classes_at (take n live.rows.head_classes)
    ∷ stretch bytes_at (take n live.bytes)
    ∷ stretch held_at (take n live.held)
    ∷ stretch since_at (take n live.since)
    ∷ stretch parent_since_at (take n live.parent_since)
    ∷ stretch classes_at (map (λ (p : Held). p.class) live.packets)
    ∷ stretch lengths_at (map (λ (p : Held). p.length) live.packets)
    ∷ stretch names_at (map (λ (p : Held). p.name) live.packets)
    ∷ []

stored_chain : (live : Live) (words : List ℕ) → stored live words ≡ chain (stretches live) words
unfolding stored packets_stored counts_stored heads_stored tags_stored tree_stored rows_stored stretches chain
stored_chain live words = refl

pub stored_length : (live : Live) (words : List ℕ) → length (stored live words) ≡ length words
stored_length live words = ap length (stored_chain live words) ∙ chain_length (stretches live) words

-- ── each stretch has its room ──

room : (at n : ℕ) (xs : List ℕ) → n ≤ most_rows → at + length (take n xs) ≤ at + most_rows
room at n xs few = simp length-take (omega arith)

held_room : (at : ℕ) (f : Held → ℕ) (ps : List Held) → length ps ≤ most_held → at + length (map f ps) ≤ at + most_held
held_room at f ps few = simp length-map (omega arith)

module _ (live : Live) (few : live.tree.rows ≤ most_rows) (few_held : length live.packets ≤ most_held) where
  rising : Rising 0 state_words (stretches live)
  unfolding Rising stretches
  rising =
      let n = live.tree.rows in (
        omega arith,
        (
          omega arith,
          (
            room identifiers_at n live.tree.identifiers few,
            (
              room parents_at n live.tree.parents few,
              (
                room depths_at n live.tree.depths few,
                (
                  room shares_at n live.tree.shares few,
                  (
                    room starts_at n live.rows.starts few,
                    (
                      room finishes_at n live.rows.finishes few,
                      (
                        room virtuals_at n live.rows.virtuals few,
                        (
                          room heads_at n live.rows.heads few,
                          (
                            room head_lengths_at n live.rows.head_lengths few,
                            (
                              room head_classes_at n live.rows.head_classes few,
                              (
                                room bytes_at n live.bytes few,
                                (
                                  room held_at n live.held few,
                                  (
                                    room since_at n live.since few,
                                    (
                                      room parent_since_at n live.parent_since few,
                                      (
                                        held_room classes_at (λ (p : Held). p.class) live.packets few_held,
                                        (
                                          held_room lengths_at (λ (p : Held). p.length) live.packets few_held,
                                          held_room names_at (λ (p : Held). p.name) live.packets few_held,
                                        ),
                                      ),
                                    ),
                                  ),
                                ),
                              ),
                            ),
                          ),
                        ),
                      ),
                    ),
                  ),
                ),
              ),
            ),
          ),
        ),
      )

  module _ (words : List ℕ) (inside : state_words ≤ length words) where
    -- the stretch of this number is read
    read_again :
        (k : ℕ) → k < 18
        → words_at (get_or (stretches live) k (stretch 0 [])).at (length (get_or (stretches live) k (stretch 0 [])).list) (stored live words)
        ≡ (get_or (stretches live) k (stretch 0 [])).list
    unfolding stretches
    read_again k within =
        rw (stored_chain live words) (chain_read (stretches live) words 0 state_words rising inside (stretch 0 []) k within)

    -- a list of rows is read
    rows_again :
        (at : ℕ) (xs : List ℕ) → at + most_rows ≤ state_words → Rowed live.tree.rows xs
        → words_at at (length (take live.tree.rows xs)) (stored live words) ≡ take live.tree.rows xs
        → rows_at at live.tree.rows (stored live words) ≡ xs
    rows_again at xs early rowed same =
        let n = live.tree.rows in
        let long = stored_length live words in
        let full = rowed.full in
        let size = length-take-le n xs (omega arith) in
        rows_of at n (stored live words) xs few (omega arith) rowed.full rowed.unused (rw size at same)

    module _ (shaped : Shaped live) where
      tree_again : tree_in live.tree.rows (stored live words) ≡ live.tree
      unfolding tree_in stretches
      tree_again =
          let n = live.tree.rows in
          let ids = live.tree.identifiers in
          let size = shaped.identifiers in
          let whole : take n ids ≡ ids = take_all n ids (omega arith) in
          let identifiers : words_at identifiers_at n (stored live words) ≡ ids = rw (whole, shaped.identifiers) at (read_again 1 (omega arith)) in
          rw (
            identifiers,
            rows_again parents_at live.tree.parents (omega arith) shaped.parents (read_again 2 (omega arith)),
            rows_again depths_at live.tree.depths (omega arith) shaped.depths (read_again 3 (omega arith)),
            rows_again shares_at live.tree.shares (omega arith) shaped.shares (read_again 4 (omega arith)),
          )

      rows_in_again : rows_in live.tree.rows (stored live words) ≡ live.rows
      unfolding rows_in stretches
      rows_in_again =
          let rows = live.rows in
          let rowed = shaped.rows in
          rw (
            rows_again starts_at rows.starts (omega arith) rowed.starts (read_again 5 (omega arith)),
            rows_again finishes_at rows.finishes (omega arith) rowed.finishes (read_again 6 (omega arith)),
            rows_again virtuals_at rows.virtuals (omega arith) rowed.virtuals (read_again 7 (omega arith)),
            rows_again heads_at rows.heads (omega arith) rowed.heads (read_again 8 (omega arith)),
            rows_again head_lengths_at rows.head_lengths (omega arith) rowed.head_lengths (read_again 9 (omega arith)),
            rows_again head_classes_at rows.head_classes (omega arith) rowed.head_classes (read_again 10 (omega arith)),
          )

      packets_again : packets_at (length live.packets) (stored live words) ≡ live.packets
      unfolding stretches
      packets_again =
          let ps = live.packets in
          packets_of (length ps) (stored live words) ps refl
          (rw (length-map ps (λ (p : Held). p.class)) at (read_again 15 (omega arith)))
          (rw (length-map ps (λ (p : Held). p.length)) at (read_again 16 (omega arith)))
          (rw (length-map ps (λ (p : Held). p.name)) at (read_again 17 (omega arith)))

      -- the first two words
      count_again : get_or (stored live words) rows_word 0 ≡ live.tree.rows
      unfolding stretches
      count_again =
          sym (words_get 0 2 (stored live words) 0 (omega arith)) ∙ ap (λ (l : List ℕ). get_or l 0 0) (read_again 0 (omega arith))

      accepted_again : get_or (stored live words) accepted_word 0 ≡ live.accepted
      unfolding stretches
      accepted_again =
          sym (words_get 0 2 (stored live words) 1 (omega arith)) ∙ ap (λ (l : List ℕ). get_or l 1 0) (read_again 0 (omega arith))

      held_list_again : rows_at held_at live.tree.rows (stored live words) ≡ live.held
      unfolding stretches
      held_list_again = rows_again held_at live.held (omega arith) shaped.held (read_again 12 (omega arith))

      with_again : live_with live.tree.rows (length live.packets) (stored live words) ≡ live
      unfolding live_with stretches
      with_again =
          rw (
            tree_again,
            rows_in_again,
            rows_again bytes_at live.bytes (omega arith) shaped.bytes (read_again 11 (omega arith)),
            held_list_again,
            rows_again since_at live.since (omega arith) shaped.since (read_again 13 (omega arith)),
            rows_again parent_since_at live.parent_since (omega arith) shaped.parent_since (read_again 14 (omega arith)),
            packets_again,
            accepted_again,
          )

      -- how many packets are held is the root's word
      held_again : 0 < live.tree.rows → get_or (stored live words) held_at 0 ≡ length live.packets
      held_again some =
          let long = stored_length live words in
          sym (rows_get held_at live.tree.rows (stored live words) (omega arith) 0 some) ∙ ap (λ (l : List ℕ). get_or l 0 0) held_list_again
          ∙ shaped.held_all

pub stored_in :
    (live : Live) (words : List ℕ) → Shaped live → Counted live → state_words ≤ length words → live_in (stored live words) ≡ live
unfolding live_in
stored_in live words shaped counted inside =
    let few = counted.few_rows in
    let few_held = counted.few_held in
    rw (
      count_again live few few_held words inside shaped,
      held_again live few few_held words inside shaped counted.some_rows,
    )
    (with_again live few few_held words inside shaped)
