-- `put_in` meets its contract, by its test.
-- Assumes nothing.
use Rattle.output.proofs.Pages.{then}
use Rattle.output.specs.Quoted.{bytes_of}
use Rattle.sentences.proofs.Names.{in_none, in_some}
use Rattle.sentences.proofs.lent.put_in.Goals as goal

pub returns-then-is_empty : goal.returns-then-is_empty
returns-then-is_empty c = in_none _ _ c.if-is_empty.ensures

pub returns : goal.returns
unfolding bytes_of
returns c = in_some _ _ _ c.if-is_empty.ensures (then _ _ _ c.put_text-used.ensures c.put_name.ensures)
