-- `put_too_long` meets its contract: one text after another.
-- Assumes nothing.
use Rattle.output.proofs.Pages.{then}
use Rattle.output.specs.Quoted.{bytes_of}
use Rattle.files.specs.Sentences.{too_long}
use Rattle.files.proofs.unreadable.put_too_long.Goals as goal

pub returns : goal.returns
unfolding bytes_of too_long
returns g c =
    then _ _ _ c.put_unread.ensures
    (then _ _ _ c.put_text.ensures (then _ _ _ c.put_number.ensures c.put_text-2.ensures))
