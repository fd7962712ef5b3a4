-- `put_moments` meets its contract: its parts one after the other.
-- Assumes nothing.
use mathlib.Core.Path.{ap, ◌∙◌}
use Rattle.output.specs.Pages.{with_text}
use Rattle.output.proofs.Pages.{then}
use Rattle.timetable.proofs.Lines.{moments_parts}
use Rattle.timetable.proofs.lent.put_moments.Goals as goal

pub returns : goal.returns
returns c =
    then _ _ _ c.put_field-used.ensures (then _ _ _ c.put_field-used-2.ensures (then _ _ _ c.put_number-used.ensures c.put_end.ensures))
    ∙ ap (with_text _) (moments_parts _ _ _)
