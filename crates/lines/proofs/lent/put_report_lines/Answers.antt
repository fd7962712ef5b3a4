-- `lines::put_report_lines` meets its contract: the line of a row more each time.
-- Assumes nothing.
use mathlib.Core.Path.{refl, ◌≡◌}
use native.Mathlib.Numerals.{add-one}
use mir.Syntax.{w64}
use mir.Val.{to_z, of_z}
use mir.ValLaws.{to_z-of_z}
use Rattle.output.specs.Pages.{with_text}
use Rattle.forms.specs.Texts.{report_line, report_lines}
use Rattle.output.proofs.Pages.{then}
use Rattle.lines.proofs.lent.put_report_lines.Goals as goal

pub loop-r-init : goal.loop-r-init
unfolding report_lines with_text
loop-r-init c = refl

pub loop-r-preserved : goal.loop-r-preserved
unfolding report_lines report_line
loop-r-preserved c =
    let lag = c.lag.result in
    let same : to_z w64 (of_z w64 lag) ≡ lag = to_z-of_z w64 lag (record { sfits = c.lag.type_inv }) in
    rw (add-one, ← c.lag.ensures) (then _ _ _ c.loop-r.invariant (rw same at c.put_report_line-used.ensures))
