-- `scan_text` meets its contract: the bytes so far have at least as many bytes as lines.
-- Assumes nothing.
use mathlib.Core.Path.{ap, ◌∙◌}
use native.Mathlib.Omega.{arith}
use lib.ListN.{take, length-take}
use Rattle.forms.specs.declared.Scan.{Scan}
use Rattle.forms.specs.Faults.{read_text, with_bytes}
use Rattle.csv_text.proofs.Turns.{lines_most, scan_turn}
use Rattle.csv_text.proofs.scans.scan_text.Goals as goal

pub loop-byte-init : goal.loop-byte-init
unfolding read_text with_bytes
loop-byte-init c = c.unread-scan.ensures

pub after-scan-requires : goal.after-scan-requires
after-scan-requires c =
    let at = c.loop-byte in
    let text = c.args.text.now in
    omega (arith, lines_most (take at.byte-index text), ap (λ (scan : Scan). scan.lines) at.invariant, length-take at.byte-index text)

pub loop-byte-preserved : goal.loop-byte-preserved
loop-byte-preserved c =
    let at = c.loop-byte in
    c.after-scan.ensures ∙ scan_turn c.args.text.now at.byte-index at.scan (omega arith) at.invariant
