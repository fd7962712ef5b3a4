-- `lines::put_answer` meets its contract: its parts one after the other.
-- Assumes nothing.
use mathlib.Core.Path.{ap, ◌∙◌}
use Rattle.output.specs.Quoted.{bytes_of}
use Rattle.output.specs.Pages.{with_text}
use Rattle.forms.specs.Bytes.{answer_heading}
use Rattle.lines.proofs.Parts.{answer_parts}
use Rattle.output.proofs.Pages.{then}
use Rattle.lines.proofs.lent.put_answer.Goals as goal

pub returns : goal.returns
unfolding answer_heading bytes_of
returns c =
    then _ _ _ c.put_text-used.ensures (then _ _ _ c.put_end-used.ensures (then _ _ _ c.put_then-used.ensures
    (then _ _ _ c.put_then-used-2.ensures (then _ _ _ c.put_then-used-3.ensures (then _ _ _ c.put_word-last.ensures
    c.put_end.ensures)))))
    ∙ ap (with_text _) (answer_parts _)
