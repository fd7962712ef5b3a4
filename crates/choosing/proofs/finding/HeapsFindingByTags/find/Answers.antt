-- `Heaps::find` meets its contract: a row's two heaps tell the child that the rules pick.
-- Assumes nothing.
use mathlib.Core.Path.{◌∙◌}
use Rattle.rules.specs.declared.Why.TheVariants.{Arrived}
use Rattle.filing.proofs.Choosing.{chosen, chosen_time, chosen_child}
use Rattle.choosing.proofs.finding.HeapsFindingByTags.find.Goals as goal

pub returns : goal.returns
returns c tree class_of old =
    record {
      time_is = c.choose.ensures.time ∙ chosen_time tree old.sound class_of Arrived _ old.inner _ _ old.none old.filed;
      child_is = c.choose.ensures.child ∙ chosen_child tree old.sound class_of Arrived _ old.inner _ _ old.none old.filed;
      filed = λ why. rw c.choose.ensures.forest_after (chosen tree old.sound class_of why _ old.inner _ _ old.none old.filed);
    }
