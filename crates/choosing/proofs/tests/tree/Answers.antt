-- `tests::tree` meets its contract: 0 and 1 are rows that there can be.
-- Assumes nothing.
use Prim.Native.Nat.{ℕ, ◌<◌}
use native.Mathlib.Omega.{arith}
use Rattle.words.proofs.Entries.{entry_set}
use Rattle.laws.proofs.Event.Outset.{zeros_at}
use Rattle.input.specs.Limits.{most_rows}
use Rattle.input.specs.Classes.{zeros}
use Rattle.arrays.specs.Arrays.{no_tree}
use Rattle.choosing.proofs.tests.tree.Goals as goal

pub returns : goal.returns
unfolding no_tree
returns c i = rw c.zeros-tree.ensures (entry_set (λ (t : ℕ). t < most_rows) zeros 2 1 i (omega arith) (rw (zeros_at i) (omega arith)))
