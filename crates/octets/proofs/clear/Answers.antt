-- `octets::clear` meets its contract.
-- Assumes nothing.
use Rattle.std.proofs.Common.{rules}
use Rattle.rules.specs.Outcome.{over}
use Rattle.octets.proofs.clear.Goals as goal

pub returns : goal.returns
unfolding over
returns c = search (rules, c.fill.ensures.after (λ y same. same))
