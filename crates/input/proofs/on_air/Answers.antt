-- `input::on_air` meets its contract: the remainder is what the low bits are.
-- Assumes nothing.
use borrow.Author.Rules.{rules}
use Rattle.input.specs.Classes.{on_air}
use Rattle.input.proofs.on_air.Goals as goal

pub returns : goal.returns
unfolding on_air
returns c = search rules
