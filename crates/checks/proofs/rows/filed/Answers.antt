-- `checks::rows::filed` meets its contract: the rows passed are filed.
-- Assumes nothing.
use mathlib.Core.Path.{◌≡◌, refl}
use native.Mathlib.Numerals.{add-one}
use native.Mathlib.Omega.{arith}
use lib.ListN.{length}
use Rattle.checks.specs.Filed.{none_filed, rows_filed}
use Rattle.checks.proofs.rows.filed.Goals as goal

pub loop-r-init : goal.loop-r-init
unfolding none_filed rows_filed
loop-r-init c = refl

pub loop-r-preserved : goal.loop-r-preserved
unfolding rows_filed
loop-r-preserved c = rw (add-one, c.on_air.ensures.0, c.loop-r.invariant) refl

pub returns : goal.returns
returns c =
    let at = c.loop-r in
    let end : at.r ≡ length c.args.identifiers.now = omega arith in
    record { some = c.requires.0; few = c.requires.1; filed = rw (← end) at.invariant }
