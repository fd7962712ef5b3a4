-- `waiting::ripen` meets its contract: what remains to be done is all that was to be done at first.
-- Assumes nothing.
use Prim.Native.Nat.{◌-◌}
use mathlib.Core.Path.{◌≡◌}
use Rattle.input.specs.Limits.{most_rows}
use Rattle.heaps.specs.Kept.{forest_in}
use Rattle.waiting.specs.Waiting.{ripened}
use Rattle.waiting.proofs.ripen.Given as goal

abbrev pub invariant-loop-turn : goal.invariant-loop-turn
invariant-loop-turn l =
    ripened (most_rows - l._turn) l.rows.starts l.rows.finishes l.rows.heads l.p l.v (forest_in l.heaps)
    ≡ ripened most_rows l.rows.starts l.rows.finishes l.rows.heads l.p l.v (forest_in l.initial.heaps)
