-- What an event leaves of the rows: lists as long as they were, and nothing written in rows out of use.
-- Assumes nothing.
use Prim.Native.Nat.{ℕ, suc, pred, ◌+◌, ◌≤◌, ◌<◌}
use mathlib.Core.Path.{◌∙◌}
use mathlib.Core.Bool.{cond}
use mathlib.Core.List.{List}
use lib.Dec.{eqb}
use Rattle.input.specs.Classes.{Tree, parent}
use Rattle.rules.specs.Box.{Rows, Box, head_length, bytes_of, held_by, line_class}
use Rattle.rules.specs.Steps.{along, arrival, departure}
use Rattle.laws.specs.Sound.{Sound}
use Rattle.laws.specs.Moves.{Full, SameRow}
use Rattle.laws.proofs.Tree.Paths.{along_length}
use Rattle.laws.proofs.Event.Beyond.{along_beyond, arrival_row, departure_row}
use Rattle.live_laws.specs.Holds.{Rowed, RowsRowed}

-- every list of a box
pub record BoxRowed (n : ℕ) (box : Box) : Type 0 where
  pub rows : RowsRowed n box.rows
  pub bytes : Rowed n box.bytes
  pub held : Rowed n box.held
  pub since : Rowed n box.since
  pub parent_since : Rowed n box.parent_since

pub rowed_full : (n : ℕ) (a : Rows) → RowsRowed n a → Full a
rowed_full n a rowed =
    record {
      starts_full = rowed.starts.full;
      finishes_full = rowed.finishes.full;
      virtuals_full = rowed.virtuals.full;
      heads_full = rowed.heads.full;
      head_lengths_full = rowed.head_lengths.full;
      head_classes_full = rowed.head_classes.full;
    }

-- rows that are full and unchanged beyond those in use
rows_still : (n : ℕ) (a b : Rows) → RowsRowed n a → Full b → ((j : ℕ) → n ≤ j → SameRow a b j) → RowsRowed n b
rows_still n a b rowed full same =
    record {
      starts = record { full = full.starts_full; unused = λ r beyond. (same r beyond).kid.start_same ∙ rowed.starts.unused r beyond };
      finishes = record { full = full.finishes_full; unused = λ r beyond. (same r beyond).kid.finish_same ∙ rowed.finishes.unused r beyond };
      virtuals = record { full = full.virtuals_full; unused = λ r beyond. (same r beyond).virtual_same ∙ rowed.virtuals.unused r beyond };
      heads = record { full = full.heads_full; unused = λ r beyond. (same r beyond).kid.head_same.packet_same ∙ rowed.heads.unused r beyond };
      head_lengths =
          record { full = full.head_lengths_full; unused = λ r beyond. (same r beyond).kid.head_same.length_same ∙ rowed.head_lengths.unused r beyond };
      head_classes =
          record { full = full.head_classes_full; unused = λ r beyond. (same r beyond).kid.head_same.class_same ∙ rowed.head_classes.unused r beyond };
    }

module _ (tree : Tree) (sound : Sound tree) where
  -- a list changed along a path
  along_rowed : (f : ℕ → ℕ → ℕ) (k : ℕ) (xs : List ℕ) → k < tree.rows → Rowed tree.rows xs → Rowed tree.rows (along tree f k xs)
  along_rowed f k xs inside rowed =
      record {
        full = along_length tree sound f k xs ∙ rowed.full;
        unused = λ r beyond. along_beyond tree sound r beyond f k xs inside ∙ rowed.unused r beyond;
      }

  pub arrival_rowed :
      (place k length : ℕ) → k < tree.rows → (box : Box) → Full (arrival tree place k length box).rows → BoxRowed tree.rows box
      → BoxRowed tree.rows (arrival tree place k length box)
  unfolding arrival
  arrival_rowed place k length inside box after rowed =
      record {
        rows =
            rows_still tree.rows box.rows (arrival tree place k length box).rows rowed.rows after
            (λ j beyond. arrival_row tree sound j beyond place k length inside box (rowed_full tree.rows box.rows rowed.rows));
        bytes = rowed.bytes;
        held = along_rowed (λ r n. suc n) k box.held inside rowed.held;
        since = along_rowed (λ r n. cond (eqb (held_by box r) 0) (bytes_of box r) n) k box.since inside rowed.since;
        parent_since =
            along_rowed (λ r n. cond (eqb (held_by box r) 0) (bytes_of box (parent tree r)) n) k box.parent_since inside rowed.parent_since;
      }

  pub departure_rowed :
      (box : Box) → line_class box < tree.rows → Full (departure tree box).rows → BoxRowed tree.rows box
      → BoxRowed tree.rows (departure tree box)
  unfolding departure
  departure_rowed box inside after rowed =
      record {
        rows =
            rows_still tree.rows box.rows (departure tree box).rows rowed.rows after
            (λ j beyond. departure_row tree sound j beyond box inside (rowed_full tree.rows box.rows rowed.rows));
        bytes = along_rowed (λ r n. n + head_length box.rows 0) (line_class box) box.bytes inside rowed.bytes;
        held = along_rowed (λ r n. pred n) (line_class box) box.held inside rowed.held;
        since = rowed.since;
        parent_since = rowed.parent_since;
      }
