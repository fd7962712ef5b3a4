-- `children_share` meets its contract: the sum so far is that of the rows passed, and has room for the shares of all rows that are held.
-- Assumes nothing.
use Prim.Native.Nat.{◌≤◌, ◌*◌}
use mathlib.Core.Path.{◌≡◌}
use Rattle.sentences.specs.Named.{shares_under}
use Rattle.sentences.proofs.Columns.children_share.Given as goal

abbrev pub invariant-loop-child : goal.invariant-loop-child
invariant-loop-child l =
    (l.sum ≤ l.child * 4294967295) × (l.sum ≡ shares_under l.row l.self.identifiers.now l.self.parents.now l.self.shares.now l.child)
