-- `put_refused` meets its contract: one text after another.
-- Assumes nothing.
use Rattle.output.proofs.Pages.{then}
use Rattle.output.specs.Quoted.{bytes_of}
use Rattle.sentences.specs.Files.{refused}
use Rattle.sentences.proofs.lent.put_refused.Goals as goal

pub returns : goal.returns
unfolding bytes_of refused
returns c = then _ _ _ c.put_named-used.ensures (then _ _ _ c.put_in-used.ensures c.put_text.ensures)
