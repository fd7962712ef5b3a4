-- A row of the report, from the arrays that it is read from, and as it is written.
-- Assumes nothing.
use Prim.Native.Nat.{ℕ, ◌+◌, ◌≤◌}
use borrow.Rule.Slice.PartMut.{put_mid}
use native.Mathlib.Omega.{arith}
use lib.ListN.{length}
use mathlib.Core.Bool.{Bool}
use mathlib.Core.Path.{◌≡◌}
use mathlib.Core.List.{List, append_assoc}
use lib.Seq.{sets, sets-eq, drop-drop}
use Rattle.input.specs.Classes.{Tree, sends}
use Rattle.rules.specs.Box.{Box}
use Rattle.rules.specs.Outcome.{row_report}
use Rattle.arrays.specs.declared.RowArrays.{RowArrays}
use Rattle.arrays.specs.declared.CountArrays.{CountArrays}
use Rattle.report.specs.Shown.{Shown, row_words}

-- a row's words are the row's report
pub row_reported : (tree : Tree) (box : Box) (r : ℕ) (hidden : Bool) (rows : RowArrays) (c : CountArrays)
    → sends tree r ≡ hidden → Shown box rows c → row_words hidden rows c r ≡ row_report tree box r
unfolding row_report
row_reported tree box r hidden rows c sending shown = rw (sending, shown.starts, shown.finishes, shown.virtuals, shown.bytes, shown.held)

-- words that are copied into their part of a list
pub part_written : (words list : List ℕ) (at k : ℕ) → k ≡ length words → at + k ≤ length list → put_mid at k list words ≡ sets list at words
part_written words list at k size room =
    let room' : at + length words ≤ length list = omega arith in
    rw (sets-eq words list at room', ← size, drop-drop, append_assoc)
