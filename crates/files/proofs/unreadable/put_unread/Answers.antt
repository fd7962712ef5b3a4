-- `put_unread` meets its contract: one text after another.
-- Assumes nothing.
use Rattle.output.proofs.Pages.{then}
use Rattle.output.specs.Quoted.{bytes_of}
use Rattle.files.specs.Sentences.{unread}
use Rattle.files.proofs.unreadable.put_unread.Goals as goal

pub returns : goal.returns
unfolding bytes_of unread
returns g c = then _ _ _ c.put_text.ensures c.put_name.ensures
