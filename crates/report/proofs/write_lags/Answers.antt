-- `report::write_lags` meets its contract: each row's lag is written after those of the rows passed.
-- Assumes nothing.
use mathlib.Core.Path.{refl}
use mathlib.Core.List.{[], ◌∷◌}
use native.Mathlib.Numerals.{add-one}
use native.Mathlib.Omega.{arith}
use mir.Syntax.{w64}
use mir.ValLaws.{to_z-of_z}
use Rattle.rules.specs.Outcome.{lag, lags_of, over}
use Rattle.rules.proofs.Results.{lags_length}
use Rattle.rules.proofs.Over.{over_more}
use Rattle.report.proofs.write_lags.Goals as goal

pub loop-r-init : goal.loop-r-init
unfolding over lags_of
loop-r-init c tree box by counts = refl

pub loop-r-preserved : goal.loop-r-preserved
unfolding lags_of
loop-r-preserved c tree box by counts =
    let r = c.loop-r.r in
    rw (to_z-of_z w64 c.lag_at.result (record { sfits = c.lag_at.type_inv }), c.lag_at.ensures tree box by counts, add-one)
    (over_more (lags_of tree box r) (lag tree box r ∷ []) _ _ r (lags_length tree box r) (omega (arith, c.requires.lags_room))
    (c.loop-r.invariant tree box by counts))
