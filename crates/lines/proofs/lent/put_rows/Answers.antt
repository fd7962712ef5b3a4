-- `lines::put_rows` meets its contract: the line of a row more each time.
-- Assumes nothing.
use mathlib.Core.Path.{refl}
use native.Mathlib.Numerals.{add-one}
use Rattle.output.specs.Pages.{with_text}
use Rattle.forms.specs.Texts.{row_lines}
use Rattle.output.proofs.Pages.{then}
use Rattle.lines.proofs.lent.put_rows.Goals as goal

pub loop-r-init : goal.loop-r-init
unfolding row_lines with_text
loop-r-init c = refl

pub loop-r-preserved : goal.loop-r-preserved
unfolding row_lines
loop-r-preserved c = rw add-one (then _ _ _ c.loop-r.invariant c.put_row-used.ensures)
