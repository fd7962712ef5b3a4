-- A word that is over its limit is in no sound state.
-- Assumes nothing.
use Prim.Native.Nat.{ℕ, ◌+◌, ◌≤◌, ◌<◌}
use mathlib.Core.Path.{◌≡◌, sym, ap, ◌∙◌}
use mathlib.Core.Bool.{true, false, false≢true}
use mathlib.Core.List.{List}
use native.Mathlib.Decide.{dec_le}
use native.Mathlib.Omega.{arith}
use borrow.Author.Tests.{le-leb, leb-true}
use lib.Dec.{leb}
use lib.ListN.{length, get_or}
use Rattle.input.specs.Limits.{most_rows, most_depth, most_identifier, most_bytes, whole}
use Rattle.live_rules.specs.Limits.{most_held}
use Rattle.live_rules.specs.Layout.{rows_word, state_words, words_at, rows_at}
use Rattle.live_rules.specs.Layout.{identifiers_at, parents_at, depths_at, shares_at, heads_at, head_lengths_at, head_classes_at, held_at}
use Rattle.live_rules.specs.State.{tree_in, rows_in, live_with, live_in}
use Rattle.live_rules.specs.Soundness.{few, sound}
use Rattle.live_rules.proofs.Stretches.{words_get}
use Rattle.live_rules.proofs.Rows.{rows_get, rows_zero}
use Rattle.live_laws.specs.Narrow.{Narrow}
use Rattle.live_rules.proofs.Alls.{true_both, all_true, true_all}
use Rattle.live_laws.proofs.Shape.{shaped_in}
use Rattle.live_laws.proofs.Telling.{few_counted, sound_holds}
use Rattle.live_laws.proofs.Narrowing.{narrow}
use Rattle.arrays.specs.declared.TreeArrays.{TreeArrays}
use Rattle.arrays.specs.Arrays.{Inside}
use Rattle.state.specs.Reading.{counts_of, TreeFilled, at_most, largest_word, tree_small, heads_small}
use Rattle.state.specs.declared.counts.Counts.{Counts}
use Rattle.state.proofs.Parts.{refuted, four_true}

-- the first n rows are in use
pub record InUse (words : List ℕ) (n : ℕ) : Type 0 where
  pub long : state_words ≤ length words
  pub rows : n ≡ get_or words rows_word 0
  pub some : 0 < n
  pub few : n ≤ most_rows

-- they are where the counts are as many as there can be
pub in_use : (words : List ℕ) (n : ℕ) → state_words ≤ length words → n ≡ get_or words rows_word 0 → few (live_in words) ≡ true → InUse words n
unfolding live_in live_with tree_in
in_use words n long same pass =
    let all = few_counted (live_in words) pass in
    record { long = long; rows = same; some = omega arith; few = omega arith }

-- by what was counted of the words
pub counted_rows : (words : List ℕ) (counts : Counts) → counts ≡ counts_of words → counts.rows ≡ get_or words rows_word 0
unfolding counts_of
counted_rows words counts same = ap (λ (c : Counts). c.rows) same

pub counted_use :
    (words : List ℕ) (counts : Counts) → state_words ≤ length words → (few (live_in words) ≡ true) × (counts ≡ counts_of words) → InUse words counts.rows
counted_use words counts long told = in_use words counts.rows long (counted_rows words counts told.1) told.0

module _ (words : List ℕ) (n : ℕ) (used : InUse words n) where
  narrow_in : sound (live_in words) ≡ true → Narrow (live_in words)
  narrow_in pass =
      let same = used.rows in
      let some = used.some in
      let few = used.few in
      narrow (live_in words) (sound_holds (live_in words) (shaped_in words used.long (omega arith) (omega arith)) pass)

  -- where each entry of a list is at most this, the words that it was read from are
  each_fits :
      (at most : ℕ) (xs : List ℕ) → ((i : ℕ) → i < n → get_or xs i 0 ≡ get_or words (at + i) 0) → ((i : ℕ) → get_or xs i 0 ≤ most)
      → at_most words n at most ≡ true
  each_fits at most xs same small =
      true_all n (λ i. leb (get_or words (at + i) 0) most)
      (λ i below. le-leb (get_or words (at + i) 0) most (let here = same i below in let fits = small i in omega arith))

  rows_fit :
      (at most : ℕ) → at + n ≤ length words → ((i : ℕ) → get_or (rows_at at (get_or words rows_word 0) words) i 0 ≤ most)
      → at_most words n at most ≡ true
  rows_fit at most inside small =
      each_fits at most (rows_at at (get_or words rows_word 0) words)
      (λ i below. ap (λ (k : ℕ). get_or (rows_at at k words) i 0) (sym used.rows) ∙ rows_get at n words inside i below) small

  named_fit : ((i : ℕ) → get_or (words_at identifiers_at (get_or words rows_word 0) words) i 0 ≤ most_identifier)
      → at_most words n identifiers_at most_identifier ≡ true
  named_fit small =
      each_fits identifiers_at most_identifier (words_at identifiers_at (get_or words rows_word 0) words)
      (λ i below. ap (λ (k : ℕ). get_or (words_at identifiers_at k words) i 0) (sym used.rows) ∙ words_get identifiers_at n words i below) small

  -- a list ends before the words do
  inside : (at : ℕ) → at ≤ 3840 → at + n ≤ length words
  inside at early = let long = used.long in let few = used.few in omega arith

  tree_fits : sound (live_in words) ≡ true → tree_small words n ≡ true
  unfolding live_in live_with tree_in
  tree_fits pass =
      let fits = narrow_in pass in
      true_both (at_most words n identifiers_at most_identifier) _ (named_fit fits.identifiers)
      (true_both (at_most words n parents_at 255) _ (rows_fit parents_at 255 (inside parents_at (omega arith)) fits.parents)
      (true_both (at_most words n depths_at most_depth) (at_most words n shares_at whole)
      (rows_fit depths_at most_depth (inside depths_at (omega arith)) fits.depths)
      (rows_fit shares_at whole (inside shares_at (omega arith)) fits.shares)))

  pub tree_unfit : tree_small words n ≡ false → sound (live_in words) ≡ false
  tree_unfit large = refuted (sound (live_in words)) (λ pass. false≢true (sym large ∙ tree_fits pass))

  -- parents that fit are rows that there can be, those of rows out of use too
  pub inside_so : (parents : List ℕ) → parents ≡ rows_at parents_at n words → at_most words n parents_at 255 ≡ true → Inside parents
  inside_so parents same small r = go (dec_le n r)
    where
      go : Dec (n ≤ r) → get_or parents r 0 < most_rows
      go (yes out) =
          let here = ap (λ (xs : List ℕ). get_or xs r 0) same in
          let none = rows_zero parents_at n words (inside parents_at (omega arith)) r out in
          omega arith
      go (no within) =
          let here = ap (λ (xs : List ℕ). get_or xs r 0) same in
          let word = rows_get parents_at n words (inside parents_at (omega arith)) r (omega arith) in
          let few = leb-true (get_or words (parents_at + r) 0) 255
          (all_true n (λ (i : ℕ). leb (get_or words (parents_at + i) 0) 255) small r (omega arith)) in
          omega arith

  pub filled_inside : (names : List ℕ) (tree : TreeArrays) → TreeFilled words n names tree → tree_small words n ≡ true → Inside tree.parents
  filled_inside names tree is small =
      let (first, second, third, fourth) =
      four_true (at_most words n identifiers_at most_identifier) (at_most words n parents_at 255) (at_most words n depths_at most_depth)
      (at_most words n shares_at whole) small in
      inside_so tree.parents is.parents second

  heads_fit : sound (live_in words) ≡ true → heads_small words n ≡ true
  unfolding live_in live_with rows_in
  heads_fit pass =
      let fits = narrow_in pass in
      true_both (at_most words n heads_at largest_word) _
      (rows_fit heads_at largest_word (inside heads_at (omega arith)) (λ r. let small = fits.heads r in omega arith))
      (true_both (at_most words n head_lengths_at most_bytes) _
      (rows_fit head_lengths_at most_bytes (inside head_lengths_at (omega arith)) fits.head_lengths)
      (true_both (at_most words n head_classes_at 255) (at_most words n held_at most_held)
      (rows_fit head_classes_at 255 (inside head_classes_at (omega arith)) fits.head_classes)
      (rows_fit held_at most_held (inside held_at (omega arith)) fits.held)))

  pub heads_unfit : heads_small words n ≡ false → sound (live_in words) ≡ false
  heads_unfit large = refuted (sound (live_in words)) (λ pass. false≢true (sym large ∙ heads_fit pass))
