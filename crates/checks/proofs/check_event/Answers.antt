-- `checks::check_event` meets its contract, by the kind of event.
-- Assumes nothing.
use Rattle.checks.proofs.check_event.Goals as goal

pub returns-in-Arrival : goal.returns-in-Arrival
returns-in-Arrival c tree known =
    let a = c.args in
    rw c.in-Arrival.is (c.check_arrival.ensures tree a.word a.idle known)

pub returns-in-Finish : goal.returns-in-Finish
returns-in-Finish c tree known = rw c.in-Finish.is (c.check_finish.ensures tree)
