-- `put_field` meets its contract: one text after another.
-- Assumes nothing.
use Rattle.output.proofs.Pages.{then}
use Rattle.output.specs.Quoted.{bytes_of}
use Rattle.files.specs.Sentences.{field}
use Rattle.files.proofs.unreadable.put_field.Goals as goal

pub returns : goal.returns
unfolding bytes_of field
returns g c = then _ _ _ c.put_named.ensures c.put_text.ensures
