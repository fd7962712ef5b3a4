-- `children_share` meets its contract: the sum so far is that of the rows passed.
-- Assumes nothing.
use Prim.Native.Nat.{suc}
use mathlib.Core.Path.{◌≡◌}
use native.Mathlib.Omega.{arith}
use Rattle.input.specs.Limits.{most_rows}
use Rattle.sentences.proofs.Columns.children_share.Goals as goal

pub returns : goal.returns
returns c =
    let end : c.loop-child.child ≡ suc most_rows = omega arith in
    rw end at c.loop-child.invariant.1
