-- `checks::one_finish` meets its contract, by the kind of event.
-- Assumes nothing.
use mathlib.Core.Path.{sym, ap}
use native.Mathlib.Omega.{arith}
use Rattle.rules.specs.Promise.{one_finish}
use Rattle.checks.proofs.one_finish.Goals as goal

pub returns-in-Arrival : goal.returns-in-Arrival
unfolding one_finish
returns-in-Arrival c = (sym (ap one_finish c.in-Arrival.is), omega arith)

pub returns-in-Finish : goal.returns-in-Finish
unfolding one_finish
returns-in-Finish c = (sym (ap one_finish c.in-Finish.is), omega arith)
