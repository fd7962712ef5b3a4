-- The arrays that are lent to the steps, as the rules' rows and tree.
use Rattle.std.specs.Prelude.{ℕ, ◌<◌, Bool, List, [], get_or}
use Rattle.rules.specs.declared.Why.{Why}
use Rattle.input.specs.Limits.{most_rows}
use Rattle.input.specs.Classes.{Tree, zeros}
use Rattle.input.specs.Lent.{tree_with}
use Rattle.rules.specs.Box.{Rows, has_head}
use Rattle.rules.specs.Steps.{waits, eligible, raised, next_start}
use Rattle.arrays.specs.declared.TreeArrays.{TreeArrays}
use Rattle.arrays.specs.declared.RowArrays.{RowArrays}
use Rattle.arrays.specs.declared.CountArrays.{CountArrays}

abbrev pub rows_of : List ℕ → List ℕ → List ℕ → List ℕ → List ℕ → List ℕ → Rows
rows_of starts finishes virtuals heads head_lengths head_classes =
    record { starts = starts; finishes = finishes; virtuals = virtuals; heads = heads; head_lengths = head_lengths; head_classes = head_classes }

abbrev pub rows_in : RowArrays → Rows
rows_in rows = rows_of rows.starts rows.finishes rows.virtuals rows.heads rows.head_lengths rows.head_classes

-- the tree of n rows with these identifiers
abbrev pub tree_in : ℕ → List ℕ → TreeArrays → Tree
tree_in n identifiers tree = tree_with n identifiers tree.parents tree.depths tree.shares

-- ── before anything is put in ──

unfoldable pub no_tree : TreeArrays
no_tree = record { parents = zeros; depths = zeros; shares = zeros }

unfoldable pub no_counts : CountArrays
no_counts = record { bytes = zeros; held = zeros; since = zeros; parent_since = zeros }

-- every parent is a row that there can be
abbrev pub Inside : List ℕ → Type 0
Inside parents = (i : ℕ) → get_or parents i 0 < most_rows

-- ── the rules' definitions, of those arrays alone that each reads: the others are left empty ──

abbrev pub has_head_of : List ℕ → ℕ → Bool
has_head_of heads r = has_head (rows_of [] [] [] heads [] []) r

abbrev pub waits_of : List ℕ → List ℕ → ℕ → ℕ → Bool
waits_of parents heads p r = waits (tree_with 0 [] parents [] []) (rows_of [] [] [] heads [] []) p r

abbrev pub eligible_of : List ℕ → List ℕ → List ℕ → ℕ → ℕ → ℕ → Bool
eligible_of parents starts heads p v r = eligible (tree_with 0 [] parents [] []) (rows_of starts [] [] heads [] []) p v r

abbrev pub raised_of : ℕ → List ℕ → List ℕ → List ℕ → List ℕ → ℕ → ℕ
raised_of rows parents starts virtuals heads p = raised (tree_with rows [] parents [] []) (rows_of starts [] virtuals heads [] []) p

abbrev pub next_start_of : List ℕ → List ℕ → List ℕ → Why → ℕ → ℕ
next_start_of parents finishes virtuals why r = next_start (tree_with 0 [] parents [] []) why r (rows_of [] finishes virtuals [] [] [])
