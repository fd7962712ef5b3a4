-- `stopped` meets its contract: the scan is that of the bytes before the fault.
-- Assumes nothing.
use mathlib.Core.Path.{◌≡◌, ap, ◌∙◌}
use native.Mathlib.Omega.{arith}
use lib.ListN.{length, take, length-take}
use Rattle.forms.specs.declared.Scan.{Scan}
use Rattle.forms.specs.Faults.{read_text, with_bytes}
use Rattle.csv_text.proofs.Turns.{lines_most, scan_turn}
use Rattle.sentences.proofs.faults.stopped.Goals as goal

pub loop-at-init : goal.loop-at-init
unfolding read_text with_bytes
loop-at-init c = c.unread-scan.ensures

pub after-next-requires : goal.after-next-requires
after-next-requires c =
    let at = c.loop-at in
    let text = c.args.text.now in
    let lines = lines_most (take at.at text) in
    let same = ap (λ (scan : Scan). scan.lines) at.invariant in
    omega (arith, lines, same, length-take at.at text)

pub loop-at-preserved : goal.loop-at-preserved
loop-at-preserved c =
    let at = c.loop-at in c.after-next.ensures ∙ scan_turn c.args.text.now at.at at.scan (omega arith) at.invariant

pub returns : goal.returns
returns c = let end : c.loop-at.at ≡ length c.args.text.now = omega arith in rw end at c.loop-at.invariant
