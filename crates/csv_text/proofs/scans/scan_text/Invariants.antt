-- The invariant of the loop of `scan_text`: the scan is that of the bytes so far.
use mathlib.Core.Path.{◌≡◌}
use lib.ListN.{take}
use Rattle.forms.specs.Faults.{read_text}
use Rattle.csv_text.proofs.scans.scan_text.Given as goal

abbrev pub invariant-loop-byte : goal.invariant-loop-byte
invariant-loop-byte l = l.scan ≡ (read_text (take l.byte-index l.text)).scan
