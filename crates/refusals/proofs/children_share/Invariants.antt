-- `children_share` meets its contract: the sum so far is that of the rows passed, and has room for as many shares as there can be rows.
-- Assumes nothing.
use Prim.Native.Nat.{◌*◌, ◌≤◌}
use mathlib.Core.Path.{◌≡◌}
use Rattle.input.specs.Classes.{Tree}
use Rattle.refusals.specs.All.{children_share}
use Rattle.refusals.proofs.children_share.Given as goal

abbrev pub invariant-loop-r : goal.invariant-loop-r
invariant-loop-r l =
    (l.sum ≤ 4294967296 * l.r) × ((tree : Tree) → tree.parents ≡ l.tree.parents → tree.shares ≡ l.tree.shares → l.sum ≡ children_share tree l.p l.r)
