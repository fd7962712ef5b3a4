-- `put_live_heading` meets its contract: the names, and the end of their line.
-- Assumes nothing.
use borrow.Author.Rules.{rules}
use Rattle.output.specs.Quoted.{bytes_of}
use Rattle.output.proofs.Pages.{then}
use Rattle.forms.specs.Bytes.{live_heading}
use Rattle.lines.proofs.lent.put_live_heading.Goals as goal

pub returns : goal.returns
unfolding live_heading bytes_of
returns c = search (rules, then)
