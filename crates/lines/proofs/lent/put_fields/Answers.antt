-- `lines::put_fields` meets its contract: a word more of the row each time.
-- Assumes nothing.
use mathlib.Core.Path.{refl, ap, ◌∙◌}
use native.Mathlib.Numerals.{add-one}
use Rattle.output.specs.Pages.{with_text}
use Rattle.forms.specs.Texts.{report_fields}
use Rattle.lines.proofs.Parts.{fields_turn}
use Rattle.output.proofs.Pages.{then}
use Rattle.lines.proofs.lent.put_fields.Goals as goal

pub loop-j-init : goal.loop-j-init
unfolding report_fields with_text
loop-j-init c = refl

pub loop-j-preserved : goal.loop-j-preserved
loop-j-preserved c =
    rw add-one (then _ _ _ c.loop-j.invariant (rw c.report_word.ensures at c.put_field-used.ensures)
    ∙ ap (with_text _) (fields_turn _ _ _))
