-- `lines::put_run` meets its contract: the answer alone, or with the order and the report.
-- Assumes nothing.
use mathlib.Core.Path.{ap, ◌∙◌}
use Rattle.output.specs.Pages.{with_text}
use Rattle.output.proofs.Pages.{then}
use Rattle.lines.proofs.Parts.{run_refused, run_done}
use Rattle.lines.proofs.lent.put_run.Goals as goal

pub returns-then-answer-ne0 : goal.returns-then-answer-ne0
returns-then-answer-ne0 c = c.put_answer-used.ensures ∙ ap (with_text _) (run_refused _ _ _ _ _ c.if-answer-ne0.true)

pub returns : goal.returns
returns c =
    then _ _ _ c.put_answer-used.ensures (then _ _ _ c.put_order-used.ensures c.put_report.ensures)
    ∙ ap (with_text _) (run_done _ _ _ _ _ c.if-answer-ne0.false)
