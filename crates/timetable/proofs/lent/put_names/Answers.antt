-- `put_names` meets its contract: its parts one after the other.
-- Assumes nothing.
use mathlib.Core.Path.{ap, ◌∙◌}
use Rattle.output.specs.Pages.{with_text}
use Rattle.output.proofs.Pages.{then}
use Rattle.timetable.proofs.Lines.{names_parts}
use Rattle.timetable.proofs.lent.put_names.Goals as goal

pub returns : goal.returns
returns c =
    then _ _ _ c.put_then-used.ensures (then _ _ _ c.put_then-used-2.ensures (then _ _ _ c.put_then-used-3.ensures c.put_then.ensures))
    ∙ ap (with_text _) (names_parts _ _ _ _)
