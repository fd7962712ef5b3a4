-- `put_live_line` meets its contract: its parts one after the other.
-- Assumes nothing.
use Rattle.output.proofs.Pages.{then}
use Rattle.forms.specs.Texts.{live_line}
use Rattle.lines.proofs.lent.put_live_line.Goals as goal

pub returns : goal.returns
unfolding live_line
returns c =
    then _ _ _ c.put_then-used.ensures (then _ _ _ c.put_then-used-2.ensures (then _ _ _ c.put_then-used-3.ensures
    (then _ _ _ c.put_then-used-4.ensures (then _ _ _ c.put_word-used.ensures c.put_end.ensures))))
