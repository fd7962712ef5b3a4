-- `sheet::after` meets its contract: the steps that are left, from where the loop stands, give what all of them give.
-- Assumes nothing.
use Prim.Native.Nat.{◌-◌, ◌<◌}
use mathlib.Core.Path.{◌≡◌}
use Rattle.sheet.specs.Paper.{figure, fraction, climbing, worked}
use Rattle.sheet.proofs.after.Given as goal

abbrev pub invariant-loop : goal.invariant-loop
invariant-loop l =
    (0 < l.figure.1.0)
    × (climbing (l.steps - l.counter) l.parents l.shares l.largest l.ticks l.at (figure (fraction l.figure.0 l.figure.1.0))
    ≡ worked l.steps l.parents l.shares l.largest l.ticks l.row l.own)
