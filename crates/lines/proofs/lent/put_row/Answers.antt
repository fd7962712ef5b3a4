-- `lines::put_row` meets its contract: its parts one after the other.
-- Assumes nothing.
use mathlib.Core.Path.{ap, ◌∙◌}
use Rattle.output.specs.Pages.{with_text}
use Rattle.lines.proofs.Parts.{row_parts}
use Rattle.output.proofs.Pages.{then}
use Rattle.lines.proofs.lent.put_row.Goals as goal

pub returns : goal.returns
returns c =
    then _ _ _ c.put_then-used.ensures (then _ _ _ c.put_then-used-2.ensures (then _ _ _ c.put_word-used.ensures c.put_end.ensures))
    ∙ ap (with_text _) (row_parts _ _ _)
