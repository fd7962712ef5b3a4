-- `choosing::chooses` meets its contract: what is found is what the definition picks, and all is filed as it is to be then.
-- Assumes nothing.
use Rattle.input.specs.Lent.{tree_with}
use Rattle.arrays.specs.Arrays.{rows_in}
use Rattle.choosing.specs.Sizes.{most_choice}
use Rattle.choosing.proofs.Taking.{none_taken, one_taken}
use Rattle.choosing.proofs.Ticks.{raised_leeway}
use Rattle.choosing.proofs.chooses.Goals as goal

pub takes-requires-clause-most_choice_bound : goal.takes-requires-clause-most_choice_bound
takes-requires-clause-most_choice_bound g c =
    let known = c.requires.chooses in
    let tree = tree_with known.0 known.1 c.args.tree.now.parents known.2 c.args.tree.now.shares in
    let found = c.find-choice.ensures tree known.3 known.4 in
    rw found.time_is (raised_leeway most_choice tree (rows_in c.args.rows.now) c.requires.leeway c.args.p)

pub returns-then-child-eq0 : goal.returns-then-child-eq0
returns-then-child-eq0 g c n ids depths class_of old =
    let found = c.find-choice.ensures (tree_with n ids c.args.tree.now.parents depths c.args.tree.now.shares) class_of old in
    none_taken found c.args.why _ c.if-child-eq0.true c.set_head.ensures.rows_after

pub returns-else-child-eq0 : goal.returns-else-child-eq0
returns-else-child-eq0 g c n ids depths class_of old =
    let found = c.find-choice.ensures (tree_with n ids c.args.tree.now.parents depths c.args.tree.now.shares) class_of old in
    one_taken found c.args.why _ c.if-child-eq0.false (c.takes.ensures n ids depths found.time_is)
