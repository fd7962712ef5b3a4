-- The whole run on bytes, by what its tests found.
-- Assumes nothing.
use Prim.Native.Nat.{◌/◌}
use mathlib.Core.Path.{◌≡◌}
use mathlib.Core.Logic.{◌≢◌}
use lib.ListN.{length}
use borrow.Author.Tests.{eq-eqb, ne_eqb}
use Rattle.input.specs.declared.Refusal.{Refusal}
use Rattle.input.specs.Refusals.{Room}
use Rattle.input.specs.Lent.{room_with}
use Rattle.rules.specs.Refused.{refused}
use Rattle.rules.specs.Outcome.{room_of, outcome}
use Rattle.tables.specs.Judged.{Refuses}
use Rattle.checks.specs.Counted.{SlicesOf, lengths_refused}
use Rattle.checks.proofs.Whole.{stops_lengths}
use Rattle.octets.proofs.Laws.{length_words, length_signed}
use Rattle.marginlilac.specs.Exported.{LentBytes, spare_of, whole, words_lent, bytes_left, untouched, exported}

module _ (lent : LentBytes) where
  pub part_words : spare_of lent ≢ 0 → untouched lent ≡ exported lent
  unfolding exported whole
  part_words some = rw (ne_eqb (spare_of lent) 0 some)

  module _ (none_spare : spare_of lent ≡ 0) where
    pub part_answer : length lent.answer ≢ 16 → untouched lent ≡ exported lent
    unfolding exported whole
    part_answer other = rw (eq-eqb (spare_of lent) 0 none_spare, ne_eqb (length lent.answer) 16 other)

    pub whole_words : length lent.answer ≡ 16 → bytes_left (outcome (words_lent lent)) ≡ exported lent
    unfolding exported whole
    whole_words four = rw (eq-eqb (spare_of lent) 0 none_spare, eq-eqb (length lent.answer) 16 four)

  -- the slices' lengths as words
  pub slices :
      SlicesOf (words_lent lent).table (words_lent lent).events (length lent.identifiers / 4) (length lent.parents / 4) (length lent.shares / 4)
      (length lent.classes / 4) (length lent.lengths / 4)
  unfolding words_lent
  slices =
      record {
        rows_are = length_words 4 lent.identifiers;
        parents_are = length_words 4 lent.parents;
        shares_are = length_words 4 lent.shares;
        events_are = length_words 4 lent.classes;
        lengths_are = length_words 4 lent.lengths;
      }

  abbrev room : Room
  room = room_with (length lent.order / 4) (length lent.report / 8) (length lent.lags / 8) (length lent.working / 4)

  room_is : room ≡ room_of (words_lent lent)
  unfolding words_lent room_of
  room_is = rw (length_words 4 lent.order, length_words 8 lent.report, length_signed lent.lags, length_words 4 lent.working)

  -- what refuses the lengths
  abbrev lengths_in : Room → Refusal
  lengths_in room = lengths_refused (words_lent lent).table (words_lent lent).events room

  pub lengths_fine : (lengths_in room).number ≡ 0 → (lengths_in (room_of (words_lent lent))).number ≡ 0
  lengths_fine none = rw room_is at none

  pub unfit_is : (r : Refusal) → Refuses (lengths_in room) r
      → Refuses (refused (words_lent lent).table (words_lent lent).events (room_of (words_lent lent))) r
  unfit_is r unfit = stops_lengths (words_lent lent).table (words_lent lent).events (room_of (words_lent lent)) r (rw room_is at unfit)
