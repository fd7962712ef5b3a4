-- `product` meets its contract: what is multiplied so far and what is left give all of it.
-- Assumes nothing.
use Prim.Native.Nat.{◌*◌, ◌-◌, ◌^◌, ◌≤◌}
use mathlib.Core.Path.{◌≡◌}
use Rattle.input.specs.Limits.{whole}
use Rattle.input.specs.Classes.{Tree}
use Rattle.drawing.specs.Parts.{hundredths, product}
use Rattle.drawing.proofs.parts.product.Given as goal

abbrev pub invariant-loop : goal.invariant-loop
invariant-loop l = record {
  most : l.product ≤ hundredths * whole ^ l.counter;
  value : (tree : Tree) → tree.parents ≡ l.parents → tree.shares ≡ l.shares
      → l.product * product tree (l.steps - l.counter) l.at ≡ hundredths * product tree l.steps l.row;
}
