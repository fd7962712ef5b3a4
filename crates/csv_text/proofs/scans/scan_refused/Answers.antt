-- `scan_refused` meets its contract where there is no fault.
-- Assumes nothing.
use mathlib.Core.Path.{refl}
use borrow.Author.Tests.{eq-eqb}
use Rattle.input.specs.Refusals.{nothing}
use Rattle.forms.specs.Faults.{scan_refused}
use Rattle.csv_text.proofs.scans.scan_refused.Goals as goal

pub returns-in-None : goal.returns-in-None
unfolding scan_refused nothing
returns-in-None c = (rw (eq-eqb _ 0 (rw c.in-None.is at c.fault_at.ensures)), refl)
