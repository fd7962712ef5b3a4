-- `checks::check` meets its contract: the table as it was read, and the rows that were filled in, are the result.
-- Assumes nothing.
use mathlib.Core.Path.{refl}
use Rattle.input.specs.EventRows.{no_rows}
use Rattle.tables.proofs.Judging.{handed}
use Rattle.checks.proofs.check.Goals as goal

pub check_into-requires : goal.check_into-requires
unfolding no_rows
check_into-requires c = refl

pub returns-in_err-reading : goal.returns-in_err-reading
returns-in_err-reading c = handed _ _ c.from_residual.result _ c.from_residual.ensures.1 c.in_err-reading.ensures
