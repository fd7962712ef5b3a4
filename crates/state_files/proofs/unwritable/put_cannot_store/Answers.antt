-- `put_cannot_store` meets its contract: one text after another.
-- Assumes nothing.
use Rattle.output.proofs.Pages.{then}
use Rattle.output.specs.Quoted.{bytes_of}
use Rattle.state_files.specs.Sentences.{cannot_store}
use Rattle.state_files.proofs.unwritable.put_cannot_store.Goals as goal

pub returns : goal.returns
unfolding bytes_of cannot_store
returns g c =
    then _ _ _ c.put_text.ensures
    (then _ _ _ c.put_text-2.ensures (then _ _ _ c.put.ensures c.put_byte.ensures))
