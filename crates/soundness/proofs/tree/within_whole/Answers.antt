-- `within_whole` meets its contract: a walk over the rows tests each.
-- Assumes nothing.
use mathlib.Core.Path.{refl}
use borrow.Author.Rules.{rules}
use borrow.Author.Tests.{tests}
use lib.Dec.{leb}
use lib.ListN.{get_or}
use Rattle.input.specs.Limits.{whole}
use Rattle.soundness.proofs.Alls.{all_tested}
use Rattle.soundness.proofs.tree.within_whole.Goals as goal

pub returns : goal.returns
returns c =
    all_tested _ _ c.all.result c.args.n (λ p. leb (get_or c.args.sums.now p 0) whole) c.all.ensures.ran refl (λ x r q k. search (rules, tests))
