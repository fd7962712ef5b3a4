-- `stopped` meets its contract: the scan is that of the bytes before the fault.
-- Assumes nothing.
use mathlib.Core.Path.{◌≡◌}
use lib.ListN.{take}
use Rattle.forms.specs.Faults.{read_text}
use Rattle.sentences.proofs.faults.stopped.Given as goal

abbrev pub invariant-loop-at : goal.invariant-loop-at
invariant-loop-at l = l.scan ≡ (read_text (take l.at l.text)).scan
