-- What a check finds: each row as it is read, all of them, and what a run goes on with where nothing is refused.
use Rattle.std.specs.Prelude.{ℕ, zero, suc, Bool, false, List, set, replicate, Option, None}
use Rattle.input.specs.declared.Refusal.{Refusal}
use Rattle.input.specs.Limits.{most_rows}
use Rattle.input.specs.Classes.{Table, Tree, read, tree_of, depth, parent_of, sends}
use Rattle.input.specs.Refusals.{row_refused}
use Rattle.arrays.specs.declared.TreeArrays.{TreeArrays}
use Rattle.tables.specs.declared.Row.{Row}
use Rattle.tables.specs.declared.Rows.{Rows}
use Rattle.tables.specs.declared.Reading.{Reading}
use Rattle.tables.specs.Judged.{verdict}

abbrev pub refusal_of : ℕ → ℕ → ℕ → Refusal
refusal_of number place second = record { number = number; place = place; second = second }

-- row r, read after the rows before it
unfoldable pub row_read : Table → ℕ → Row
row_read table r = record { refusal = verdict (row_refused table r); parent = parent_of table r; depth = depth (tree_of table) r }

-- what refuses each row below n; nothing from n on
unfoldable pub verdicts : (ℕ → Refusal) → ℕ → List (Option Refusal)
verdicts at zero = replicate most_rows None
verdicts at (suc r) = set (verdicts at r) r (verdict (at r))

-- a tree as arrays
abbrev pub arrays_of : Tree → TreeArrays
arrays_of tree = record { parents = tree.parents; depths = tree.depths; shares = tree.shares }

-- the first n rows, read
unfoldable pub rows_read : Table → ℕ → Rows
rows_read table n = record { refusals = verdicts (row_refused table) n; tree = arrays_of (read table n) }

-- for each row below n whether it is a sending class; false from n on
unfoldable pub senders_below : Tree → ℕ → List Bool
senders_below tree zero = replicate most_rows false
senders_below tree (suc r) = set (senders_below tree r) r (sends tree r)

unfoldable pub accepting : Tree → Reading
accepting tree = record { tree = arrays_of tree; senders = senders_below tree tree.rows }
