-- `put_line` meets its contract: one text after another.
-- Assumes nothing.
use Rattle.output.proofs.Pages.{then}
use Rattle.output.specs.Quoted.{bytes_of}
use Rattle.files.specs.Sentences.{line_after}
use Rattle.files.proofs.unreadable.put_line.Goals as goal

pub returns : goal.returns
unfolding bytes_of line_after
returns g c =
    then _ _ _ c.put_text.ensures
    (then _ _ _ (rw c.saturating_add.ensures at c.put_number.ensures) c.put_text-2.ensures)
