-- `tables::first_refused` meets its contract: nothing refuses the rows passed.
-- Assumes nothing.
use Prim.Native.Nat.{ℕ, ◌<◌}
use mathlib.Core.Path.{◌≡◌}
use lib.ListN.{get_or}
use Rattle.std.specs.Prelude.{None}
use Rattle.input.specs.declared.Refusal.{Refusal}
use Rattle.input.specs.Refusals.{first_below}
use Rattle.tables.specs.Judged.{verdict}
use Rattle.tables.proofs.first_refused.Given as goal

abbrev pub invariant-loop-r : goal.invariant-loop-r
invariant-loop-r l =
    (at : ℕ → Refusal) → ((r : ℕ) → r < l.rows → get_or l.refusals r None ≡ verdict (at r)) → (first_below at l.r).number ≡ 0
