-- `checks::one_arrival` meets its contract, by the kind of event.
-- Assumes nothing.
use mathlib.Core.Path.{sym, ap}
use native.Mathlib.Omega.{arith}
use Rattle.rules.specs.Promise.{one_arrival}
use Rattle.checks.proofs.one_arrival.Goals as goal

pub returns-in-Arrival : goal.returns-in-Arrival
unfolding one_arrival
returns-in-Arrival c = (sym (ap one_arrival c.in-Arrival.is), omega arith)

pub returns-in-Finish : goal.returns-in-Finish
unfolding one_arrival
returns-in-Finish c = (sym (ap one_arrival c.in-Finish.is), omega arith)
