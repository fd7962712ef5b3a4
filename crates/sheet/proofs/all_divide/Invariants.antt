-- `sheet::all_divide` meets its contract: the shares that are left, from where the loop stands, say what all of them say.
-- Assumes nothing.
use Prim.Native.Nat.{◌-◌}
use mathlib.Core.Path.{◌≡◌}
use Rattle.sheet.specs.Paper.{dividing}
use Rattle.sheet.proofs.all_divide.Given as goal

abbrev pub invariant-loop : goal.invariant-loop
invariant-loop l = dividing (l.steps - l.counter) l.parents l.shares l.here ≡ dividing l.steps l.parents l.shares l.row
