-- All that is refused of a class table: each row's own refusal, and each row whose children have too much together.
use Rattle.std.specs.Prelude.{ℕ, zero, suc, ◌+◌, cond, List, [], ◌∷◌, ◌++◌, ltb, length}
use Rattle.input.specs.declared.Refusal.{Refusal}
use Rattle.input.specs.Limits.{whole}
use Rattle.input.specs.Classes.{Table, Tree, tree_of, child, share}
use Rattle.input.specs.Refusals.{given, row_refused}
use Rattle.tables.specs.Answers.{verdicts, arrays_of}
use Rattle.refusals.specs.declared.Judged.{Judged}

-- the share of row r if it is a child of a row above it, row p; a row whose parent is missing is nobody's child
unfoldable pub child_share : Tree → ℕ → ℕ → ℕ
child_share tree p r = cond (ltb p r) (cond (child tree p r) (share tree r) 0) 0

-- the shares of p's children among the rows below n, added up
unfoldable pub children_share : Tree → ℕ → ℕ → ℕ
children_share tree p zero = 0
children_share tree p (suc r) = children_share tree p r + child_share tree p r

-- 10 at row p where the shares of its children are too much together
unfoldable pub sum_refused : ℕ → ℕ → Refusal
sum_refused sum p = given (ltb whole sum) 10 p

unfoldable pub sum_refusal : Tree → ℕ → ℕ → Refusal
sum_refusal tree rows p = sum_refused (children_share tree p rows) p

unfoldable pub row_by_row : Table → Judged
row_by_row table =
    let rows = length table.identifiers in
    let tree = tree_of table in
    record { refusals = verdicts (row_refused table) rows; sums = verdicts (sum_refusal tree rows) rows; tree = arrays_of tree }

-- ── as a list, in the order of a run ──

unfoldable pub listed : (ℕ → Refusal) → ℕ → List Refusal
listed at zero = []
listed at (suc r) = listed at r ++ (at r ∷ [])

-- those with number 0 refuse nothing
unfoldable pub all_refused : Table → List Refusal
all_refused table =
    let rows = length table.identifiers in
    listed (row_refused table) rows ++ listed (sum_refusal (tree_of table) rows) rows
