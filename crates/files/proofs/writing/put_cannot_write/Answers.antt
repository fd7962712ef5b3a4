-- `put_cannot_write` meets its contract: one text after another.
-- Assumes nothing.
use Rattle.output.proofs.Pages.{then}
use Rattle.output.specs.Quoted.{bytes_of}
use Rattle.files.specs.Sentences.{cannot_write}
use Rattle.files.proofs.writing.put_cannot_write.Goals as goal

pub returns : goal.returns
unfolding bytes_of cannot_write
returns g c =
    then _ _ _ c.put_text.ensures (then _ _ _ c.put.ensures c.put_byte.ensures)
