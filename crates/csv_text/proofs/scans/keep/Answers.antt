-- `keep` meets its contract: the row whose line ends with this byte is stored, and nothing else is.
-- Assumes nothing.
use Rattle.csv_text.specs.Kept.{stored}
use Prim.Native.Nat.{◌<◌}
use mathlib.Core.Path.{sym, ap}
use native.Mathlib.Omega.{arith}
use Rattle.forms.specs.declared.Scan.{Scan}
use Rattle.forms.specs.Faults.{after}
use Rattle.csv_text.proofs.Turns.{kept_none, kept_same, kept_row}
use Rattle.csv_text.proofs.scans.keep.Goals as goal

pub returns-then-scan-eq0 : goal.returns-then-scan-eq0
unfolding stored
returns-then-scan-eq0 c = (c.after-next.ensures, sym (kept_none _ _ _ c.if-scan-eq0.true))

pub returns-then-scan-next : goal.returns-then-scan-next
unfolding stored
returns-then-scan-next c =
    let args = c.args in
    let same = ap (λ (scan : Scan). scan.lines) c.after-next.ensures in
    let more : args.scan.lines < (after args.scan args.byte).lines = omega (arith, c.if-scan-next.true, same) in
    (c.after-next.ensures, rw (c.store.ensures, c.store-then-scan-next.ensures, c.store-then-scan-next-2.ensures) (sym (kept_row args.scan args.byte _ c.if-scan-eq0.false more)))

pub returns-else-scan-next : goal.returns-else-scan-next
unfolding stored
returns-else-scan-next c =
    let ran = c.after-next in
    let same = ap (λ (scan : Scan). scan.lines) ran.ensures in
    (ran.ensures, sym (kept_same _ _ _ c.if-scan-eq0.false (omega (arith, c.if-scan-next.false, same))))
