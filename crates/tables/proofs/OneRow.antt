-- What a row is read as, from the numbers that the code finds.
-- Assumes nothing.
use Prim.Native.Nat.{ℕ, zero, suc, ◌+◌, ◌≤◌, ◌<◌}
use mathlib.Core.Path.{◌≡◌, refl}
use mathlib.Core.Logic.{◌≢◌}
use mathlib.Core.List.{List}
use native.Mathlib.Decide.{ℕ_discrete}
use native.Mathlib.Numerals.{add-one}
use native.Mathlib.Omega.{arith}
use lib.Dec.{eqb}
use lib.ListN.{length, get_or, set}
use lib.Seq.{get_or-set_other}
use borrow.Author.Tests.{ne_eqb}
use Rattle.std.specs.Prelude.{Option}
use Rattle.arrays.specs.declared.TreeArrays.{TreeArrays}
use Rattle.input.specs.declared.Refusal.{Refusal}
use Rattle.input.specs.Limits.{most_rows}
use Rattle.input.specs.Classes.{Table, earlier, parent_of, with_row, read, tree_of, depth}
use Rattle.input.specs.Refusals.{root_refused, class_refused, row_refused}
use Rattle.laws.proofs.Path.Tests.{cond_most}
use Rattle.laws.proofs.Tree.Trees.{depth_read, depth_at}
use Rattle.laws.proofs.Event.Outset.{zeros_at}
use Rattle.tables.specs.declared.Row.{Row}
use Rattle.tables.specs.declared.Rows.{Rows}
use Rattle.tables.specs.Sized.{Sized}
use Rattle.tables.specs.Judged.{verdict}
use Rattle.tables.specs.Answers.{row_read, verdicts, rows_read}

abbrev row_of : Option Refusal → ℕ → ℕ → Row
row_of refusal parent depth = record { refusal = refusal; parent = parent; depth = depth }

abbrev pub rows_with : List (Option Refusal) → TreeArrays → Rows
rows_with refusals tree = record { refusals = refusals; tree = tree }

-- a depth is at most the number of rows that are read
pub depth_small : (table : Table) (n j : ℕ) → n ≤ most_rows → depth (read table n) j ≤ n
unfolding read with_row depth_read
depth_small table zero j few = rw (zeros_at j) (omega arith)
depth_small table (suc n) j few = go (ℕ_discrete j n) (λ i. depth_small table n i (omega arith))
  where
    go : Dec (j ≡ n) → ((i : ℕ) → depth (read table n) i ≤ n) → depth (read table (suc n)) j ≤ suc n
    go (yes same) before =
        let above = before (parent_of table n) in
        rw (same, depth_at table (suc n) few n (omega arith)) (cond_most (eqb n 0) _ _ _ (omega arith) (omega arith))
    go (no other) before =
        let lower = before j in rw (get_or-set_other (read table n).depths n j (depth_read table n) 0 other) (omega arith)

module _ (table : Table) (sized : Sized table) where
  depth_found : (r : ℕ) → r < length table.identifiers → depth (tree_of table) r ≡ depth_read table r
  unfolding tree_of
  depth_found r inside = depth_at table (length table.identifiers) sized.most r inside

  pub root_row : (r : ℕ) → r ≡ 0 → (refusal : Option Refusal) (parent : ℕ) → refusal ≡ verdict (root_refused table) → parent ≡ parent_of table r
      → row_of refusal parent 0 ≡ row_read table r
  unfolding row_read row_refused depth_read
  root_row zero at refusal parent e1 e2 = rw (e1, e2, depth_found 0 sized.some) refl
  root_row (suc r) at refusal parent e1 e2 = absurd (omega arith)

  class_numbers : (r : ℕ) → r ≢ 0 → row_refused table r
      ≡ class_refused r (get_or table.identifiers r 0) (earlier table r (get_or table.identifiers r 0)) (parent_of table r)
      (get_or table.shares r 0) (depth (tree_of table) r)
  unfolding row_refused
  class_numbers zero other = absurd (other refl)
  class_numbers (suc r) other = refl

  pub class_row : (r : ℕ) → r < length table.identifiers → r ≢ 0
      → (depths : List ℕ) → depths ≡ (read table r).depths
      → (refusal : Option Refusal) (parent other : ℕ) → parent ≡ parent_of table r → other ≡ earlier table r (get_or table.identifiers r 0)
      → refusal ≡ verdict (class_refused r (get_or table.identifiers r 0) other parent (get_or table.shares r 0) (get_or depths parent 0 + 1))
      → row_of refusal parent (get_or depths parent 0 + 1) ≡ row_read table r
  unfolding row_read depth_read
  class_row r inside below depths eDepths refusal parent other eParent eOther eRefusal =
      let found : get_or depths parent 0 + 1 ≡ depth (tree_of table) r =
      rw (eDepths, eParent, depth_found r inside, ne_eqb r 0 below, add-one) refl
      in rw (eRefusal, found, eParent, eOther, class_numbers r below) refl

  -- one row more
  pub rows_more : (r : ℕ) → r < length table.identifiers → (rows : Rows) (row : Row) → rows ≡ rows_read table r → row ≡ row_read table r
      → rows_with (set rows.refusals r row.refusal)
      (record {
        parents = set rows.tree.parents r row.parent;
        depths = set rows.tree.depths r row.depth;
        shares = set rows.tree.shares r (get_or table.shares r 0);
      })
      ≡ rows_read table (suc r)
  unfolding rows_read row_read verdicts read with_row depth_read
  rows_more r inside rows row eRows eRow = rw (eRows, eRow, depth_found r inside) refl
