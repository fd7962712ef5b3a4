-- `lines::put_report_line` meets its contract: its parts one after the other.
-- Assumes nothing.
use mathlib.Core.Path.{◌≡◌, ap, ◌∙◌}
use mir.Syntax.{w64}
use mir.Val.{to_z, of_z}
use mir.ValLaws.{to_z-of_z}
use Rattle.output.specs.Pages.{with_text}
use Rattle.output.proofs.Pages.{then}
use Rattle.lines.proofs.Parts.{report_parts}
use Rattle.lines.proofs.lent.put_report_line.Goals as goal

pub returns : goal.returns
returns c =
    let same : to_z w64 (of_z w64 c.args.lag) ≡ c.args.lag = to_z-of_z w64 c.args.lag c.ranges.lag in
    then _ _ _ c.put_then-used.ensures (then _ _ _ c.put_fields-used.ensures (then _ _ _ (rw same at c.put_signed-used.ensures) c.put_end.ensures))
    ∙ ap (with_text _) (report_parts _ _ _)
