-- `first_refused` meets its contract: its parts are the definitions', in their order.
-- Assumes nothing.
use native.Mathlib.Omega.{arith}
use Rattle.tables.proofs.Judging.{handed, at_first, at_second}
use Rattle.captures.proofs.first_refused.Goals as goal

pub check_counts-requires : goal.check_counts-requires
check_counts-requires c = omega arith

pub returns-in_err-check_counts : goal.returns-in_err-check_counts
returns-in_err-check_counts c table list slices =
    handed _ tt c.from_residual.result _ c.from_residual.ensures.1 (at_first _ _ _ (c.in_err-check_counts.ensures table list slices))

pub returns : goal.returns
returns c table list slices = at_second _ _ tt c.list_refused.result (c.in_ok-check_counts.ensures table list slices).0 c.list_refused.ensures
