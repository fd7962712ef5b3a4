-- What the rows of a table are judged by, row by row.
-- Assumes nothing.
use Prim.Native.Nat.{ℕ}
use mathlib.Core.Path.{◌≡◌, refl}
use mathlib.Core.List.{List}
use lib.ListN.{length}
use Rattle.std.specs.Prelude.{Option}
use Rattle.input.specs.declared.Refusal.{Refusal}
use Rattle.input.specs.Classes.{Table, Tree, tree_of}
use Rattle.tables.specs.declared.Rows.{Rows}
use Rattle.tables.specs.Answers.{verdicts, rows_read}
use Rattle.tables.proofs.Answering.{parents_read, shares_read}
use Rattle.refusals.specs.declared.Judged.{Judged}
use Rattle.refusals.specs.All.{sum_refusal, row_by_row}

abbrev judged_of : Rows → List (Option Refusal) → Judged
judged_of rows sums = record { refusals = rows.refusals; sums = sums; tree = rows.tree }

module _ (table : Table) where
  abbrev n : ℕ
  n = length table.identifiers

  pub judged_rows :
      (rows : Rows) → rows ≡ rows_read table n → (sums : List (Option Refusal))
      → ((tree : Tree) → tree.parents ≡ rows.tree.parents → tree.shares ≡ rows.tree.shares → sums ≡ verdicts (sum_refusal tree n) n)
      → judged_of rows sums ≡ row_by_row table
  unfolding row_by_row tree_of rows_read
  judged_rows rows same sums summed =
      rw (summed (tree_of table) (parents_read table rows same) (shares_read table rows same), same) refl
