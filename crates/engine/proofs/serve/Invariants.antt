-- `engine::serve` meets its contract. The loop's invariant: the arrays are the box after the events passed, and the order so far is written.
-- Assumes nothing.
use mathlib.Core.Path.{◌≡◌}
use lib.ListN.{length, drop}
use Rattle.rules.specs.Steps.{after}
use Rattle.rules.specs.Outcome.{over}
use Rattle.arrays.specs.Arrays.{rows_in, tree_in}
use Rattle.input.specs.Lent.{events_of}
use Rattle.events.specs.State.{Now}
use Rattle.engine.proofs.serve.Given as goal

abbrev pub invariant-loop-i : goal.invariant-loop-i
invariant-loop-i g l =
    let tree = tree_in (length l.identifiers) l.identifiers l.tree in
    let events = events_of l.classes l.lengths in
    Now (g.F.Finding.filed l.finding) tree events l.i l.sent (rows_in l.rows) l.counts l.lasts l.working
    × (l.order ≡ over (after tree events l.i).order l.initial.order)
    × (drop (length l.classes) l.working ≡ drop (length l.classes) l.initial.working)
