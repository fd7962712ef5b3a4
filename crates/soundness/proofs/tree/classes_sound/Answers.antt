-- `classes_sound` meets its contract: a walk over the rows tests each.
-- Assumes nothing.
use mathlib.Core.Path.{refl}
use mathlib.Core.Bool.{◌||◌}
use borrow.Author.Rules.{rules}
use borrow.Author.Tests.{tests}
use lib.Dec.{eqb}
use Rattle.arrays.specs.Arrays.{tree_in}
use Rattle.live_rules.specs.Soundness.{class_sound}
use Rattle.soundness.proofs.Alls.{all_tested}
use Rattle.soundness.proofs.tree.classes_sound.Goals as goal

pub returns : goal.returns
returns c ids =
    all_tested _ _ c.all.result c.args.n (λ r. eqb r 0 || class_sound (tree_in c.args.n ids c.args.tree.now) r) c.all.ensures.ran refl (λ x r q k. search (rules, tests))
