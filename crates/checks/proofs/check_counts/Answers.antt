-- `checks::check_counts` meets its contract: 1, 2, 3 in this order.
-- Assumes nothing.
use Rattle.input.specs.Refusals.{first, rows_refused, events_refused}
use Rattle.tables.proofs.Judging.{handed, at_first, at_second, at_last}
use Rattle.checks.specs.Counted.{lengths_refused}
use Rattle.checks.proofs.check_counts.Goals as goal

pub returns-in_err-rows_refused : goal.returns-in_err-rows_refused
unfolding lengths_refused first
returns-in_err-rows_refused c table list sizes =
    handed _ tt c.from_residual.result _ c.from_residual.ensures.1
    (at_first (rows_refused table) _ _ (c.in_err-rows_refused.ensures table sizes.rows_are sizes.parents_are sizes.shares_are))

pub returns-in_err-events_refused : goal.returns-in_err-events_refused
unfolding lengths_refused first
returns-in_err-events_refused c table list sizes =
    let result = c.from_residual-in_err-events_refused in
    at_second (rows_refused table) _ tt result.result (c.in_ok-rows_refused.ensures table sizes.rows_are sizes.parents_are sizes.shares_are).0
    (handed _ tt result.result _ result.ensures.1
    (at_first (events_refused list) _ _ (c.in_err-events_refused.ensures list sizes.events_are sizes.lengths_are)))

pub returns : goal.returns
unfolding lengths_refused first
returns c table list sizes =
    let room = c.room_refused.result in
    at_second (rows_refused table) _ tt room (c.in_ok-rows_refused.ensures table sizes.rows_are sizes.parents_are sizes.shares_are).0
    (at_second (events_refused list) _ tt room (c.in_ok-events_refused.ensures list sizes.events_are sizes.lengths_are).0
    (at_last _ tt room (rw (sizes.rows_are, sizes.events_are) c.room_refused.ensures)))
