-- `hierarchy::finish_first` meets its contract: what remains to be cleared on the path is all that was to be cleared at first.
-- Assumes nothing.
use Prim.Native.Nat.{ℕ, ◌<◌, ◌-◌}
use mathlib.Core.Path.{◌≡◌}
use mathlib.Core.List.{List, []}
use Rattle.input.specs.Limits.{most_rows}
use Rattle.rules.proofs.OnPath.{Remains}
use Rattle.arrays.specs.declared.TreeArrays.{TreeArrays}
use Rattle.arrays.specs.Arrays.{tree_in}
use Rattle.hierarchy.proofs.finish_first.Given as goal

-- what remains to be cleared, from row r at depth d on
abbrev pub Uncleared : TreeArrays → ℕ → List ℕ → ℕ → ℕ → List ℕ → Type 0
Uncleared tree = Remains (tree_in 0 [] tree) (λ r n. 0)

abbrev pub invariant-loop-level : goal.invariant-loop-level
invariant-loop-level l =
    (l.r < most_rows)
    × Uncleared l.tree l.k l.initial.rows.heads (l.depth - l._level) l.r l.rows.heads
    × Uncleared l.tree l.k l.initial.rows.head_lengths (l.depth - l._level) l.r l.rows.head_lengths
    × Uncleared l.tree l.k l.initial.rows.head_classes (l.depth - l._level) l.r l.rows.head_classes
    × (l.rows.starts ≡ l.initial.rows.starts)
    × (l.rows.finishes ≡ l.initial.rows.finishes)
    × (l.rows.virtuals ≡ l.initial.rows.virtuals)
