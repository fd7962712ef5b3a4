-- `run_list` meets its contract: the run's own outcome, and its list where it is done.
-- Assumes nothing.
use borrow.Author.Tests.{ne_eqb}
use Rattle.tables.proofs.Judging.{err_is}
use Rattle.captures.proofs.run_list.Goals as goal

pub returns-in_err-sent : goal.returns-in_err-sent
returns-in_err-sent g c =
    let run = c.in_err-sent.ensures in
    let left = ne_eqb _ 0 run.numbered in
    rw (err_is c.from_residual.result _ c.from_residual.ensures.1)
    (record { numbered = run.numbered; replayed = record { run_is = run.ran; classes_are = rw left; lengths_are = rw left } })

pub returns : goal.returns
returns g c =
    record { numbered = tt; replayed = record { run_is = c.in_ok-sent.ensures.ran; classes_are = c.copy.ensures; lengths_are = c.copy-2.ensures } }
