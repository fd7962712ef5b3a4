-- `marginlilac::spare` meets its contract.
-- Assumes nothing.
use native.Mathlib.Omega.{arith}
use Rattle.marginlilac.specs.Exported.{spare}
use Rattle.marginlilac.proofs.spare.Goals as goal

pub returns : goal.returns
unfolding spare
returns c = omega arith
