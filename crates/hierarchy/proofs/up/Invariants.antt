-- `hierarchy::up` meets its contract: a choice at each row that is left is within the tags' leeway, and what remains to be done
-- is all that was to be done at first.
-- Assumes nothing.
use Prim.Native.Nat.{◌*◌, ◌-◌}
use Rattle.arrays.specs.Arrays.{rows_in}
use Rattle.choosing.specs.Sizes.{Leeway, most_choice}
use Rattle.hierarchy.proofs.Climb.{Rising}
use Rattle.hierarchy.proofs.up.Given as goal

abbrev pub invariant-loop-level : goal.invariant-loop-level
invariant-loop-level g l =
    Leeway ((l.depth - l._level) * most_choice) (rows_in l.rows)
    × Rising (g.F.Finding.filed l.initial.finding) l.tree l.why l.row l.depth (rows_in l.initial.rows)
    (g.F.Finding.filed l.finding) (l.depth - l._level) l.r (rows_in l.rows)
