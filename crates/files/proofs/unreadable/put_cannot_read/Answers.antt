-- `put_cannot_read` meets its contract: one text after another.
-- Assumes nothing.
use Rattle.output.proofs.Pages.{then}
use Rattle.output.specs.Quoted.{bytes_of}
use Rattle.files.specs.Sentences.{cannot_read}
use Rattle.files.proofs.unreadable.put_cannot_read.Goals as goal

pub returns : goal.returns
unfolding bytes_of cannot_read
returns g c =
    then _ _ _ c.put_unread.ensures
    (then _ _ _ c.put_line.ensures (then _ _ _ c.put_fault.ensures c.put_byte.ensures))
