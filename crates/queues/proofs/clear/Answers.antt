-- `queues::clear` meets its contract.
-- Assumes nothing.
use lib.ListN.{length-replicate}
use Rattle.std.proofs.lemmas.List.{length-take-le}
use Rattle.rules.specs.Outcome.{over}
use Rattle.queues.proofs.clear.Goals as goal

pub returns : goal.returns
unfolding over
returns c = rw (c.fill.ensures.after (λ y same. same), length-take-le c.args.n c.args.working.now c.requires, length-replicate)
