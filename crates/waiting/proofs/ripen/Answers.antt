-- `waiting::ripen` meets its contract: what remains to be done is all that was to be done at first.
-- Assumes nothing.
use Prim.Native.Nat.{◌-◌, ◌+◌}
use mathlib.Core.Path.{◌≡◌, sym, ◌∙◌}
use native.Mathlib.Omega.{arith}
use Rattle.input.specs.Limits.{most_rows}
use Rattle.waiting.proofs.Turns.{ripened_more, ripened_done, ripened_none}
use Rattle.waiting.proofs.ripen.Goals as goal

pub loop-turn-preserved : goal.loop-turn-preserved
loop-turn-preserved c =
    let i = c.loop-turn._turn in
    let fewer : most_rows - (i + 1) ≡ most_rows - i - 1 = omega arith in
    let first = sym c.started.ensures ∙ c.if-not-started.false in
    rw (fewer, c.ripen_one.ensures) (sym (ripened_more _ _ _ _ _ _ (most_rows - i) (omega arith) first) ∙ c.loop-turn.invariant)

pub returns-then-not-started : goal.returns-then-not-started
returns-then-not-started c =
    sym (ripened_done _ _ _ _ _ _ _ (sym c.started.ensures ∙ c.if-not-started.true)) ∙ c.loop-turn.invariant

pub returns : goal.returns
returns c =
    sym (ripened_none _ _ _ _ _ _ (most_rows - c.loop-turn._turn) (omega arith)) ∙ c.loop-turn.invariant
