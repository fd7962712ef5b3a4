-- `hierarchy::up` meets its contract: a choice at each row that is left is within the tags' leeway, and what remains to be done
-- is all that was to be done at first.
-- Assumes nothing.
use Prim.Native.Nat.{◌<◌, ◌-◌, ◌+◌}
use mathlib.Core.Path.{◌≡◌, sym, ◌∙◌}
use native.Mathlib.Omega.{arith}
use Rattle.choosing.proofs.Ticks.{less_leeway}
use Rattle.hierarchy.specs.Sizes.{most_climb}
use Rattle.hierarchy.proofs.Climb.{rising_all, rising_done, rising_stops, rising_chooses, rising_goes}
use Rattle.hierarchy.proofs.Enough.{chosen_leeway}
use Rattle.hierarchy.proofs.up.Goals as goal

pub loop-level-init : goal.loop-level-init
loop-level-init g c =
    let begins = c.requires.climbs.4 in
    let all : c.args.depth - 0 ≡ c.args.depth = omega arith in
    (less_leeway most_climb _ _ (omega (arith, begins.deep, begins.sound.shallow c.args.row begins.inside)) c.requires.leeway, rw all (rising_all _ _ _ _ _ _))

pub returns-then-has_head : goal.returns-then-has_head
returns-then-has_head g c =
    rising_stops _ _ _ _ _ _ _ _ _ _ c.loop-level.invariant.1 (omega arith) _ c.file.ensures
    (sym c.has_head.ensures ∙ c.if-has_head.true)

pub chooses-requires-clause-chooses : goal.chooses-requires-clause-chooses
chooses-requires-clause-chooses g c =
    let known = c.requires.climbs in
    let may =
    rising_chooses _ _ _ _ _ _ _ _ _ _ c.loop-level.invariant.1 (omega arith) _ c.file.ensures
    (sym c.has_head.ensures ∙ c.if-has_head.false) known.0 known.1 known.2 known.3 known.4 in
    (known.0, known.1, known.2, known.3, may)

pub loop-level-preserved : goal.loop-level-preserved
loop-level-preserved g c =
    let now = c.loop-level in
    let known = c.requires.climbs in
    let d = c.args.depth - now._level in
    let some : 0 < d = omega arith in
    let fewer : c.args.depth - (now._level + 1) ≡ d - 1 = omega arith in
    let none = sym c.has_head.ensures ∙ c.if-has_head.false in
    let may =
    rising_chooses _ _ _ _ _ _ _ _ _ _ now.invariant.1 some _ c.file.ensures none known.0 known.1 known.2
    known.3 known.4 in (
      rw fewer (chosen_leeway d _ _ _ _ _ some (c.chooses.ensures known.0 known.1 known.2 known.3 may).rows_are now.invariant.0),
      rw fewer (rising_goes _ _ _ _ _ _ _ _ _ _ now.invariant.1 some _ c.file.ensures none _ _ c.chooses.ensures),
    )

pub returns : goal.returns
returns g c = rising_done _ _ _ _ _ _ _ _ _ _ c.loop-level.invariant.1 (omega arith)
