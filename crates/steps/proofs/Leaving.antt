-- The line's packet leaves: tags and lengths stay small.
-- Assumes nothing.
use Prim.Native.Nat.{ℕ, zero, suc, ◌≤◌}
use mathlib.Core.Path.{◌≡◌, sym, subst}
use mathlib.Core.List.{List}
use native.Mathlib.Omega.{arith}
use lib.ListN.{get_or, set}
use Rattle.input.specs.Limits.{most_bytes}
use Rattle.input.specs.Classes.{Tree, parent, depth}
use Rattle.rules.specs.Box.{Rows}
use Rattle.rules.specs.Steps.{on_path, along, leaves}
use Rattle.hierarchy.specs.Sizes.{Small}
use Rattle.words.proofs.Entries.{entry_set}

path_most : (d m : ℕ) (tree : Tree) (r : ℕ) (xs : List ℕ) → ((i : ℕ) → get_or xs i 0 ≤ m) → (i : ℕ) → get_or (on_path d tree (λ r n. 0) r xs) i 0 ≤ m
unfolding on_path
path_most zero m tree r xs most i = entry_set (λ (n : ℕ). n ≤ m) xs r 0 i (omega arith) (most i)
path_most (suc d) m tree r xs most i =
    path_most d m tree (parent tree r) (set xs r 0) (λ j. entry_set (λ (n : ℕ). n ≤ m) xs r 0 j (omega arith) (most j)) i

pub leaves_small : (tree : Tree) (k : ℕ) (a : Rows) → Small a → Small (leaves tree k a)
unfolding leaves along
leaves_small tree k a small =
    record {
      starts = small.starts;
      finishes = small.finishes;
      virtuals = small.virtuals;
      head_lengths = path_most (depth tree k) most_bytes tree k a.head_lengths small.head_lengths;
    }

pub left_small : (tree : Tree) (k : ℕ) (a idle : Rows) → Small a → idle ≡ leaves tree k a → Small idle
left_small tree k a idle small is = subst Small (sym is) (leaves_small tree k a small)
