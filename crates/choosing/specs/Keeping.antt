-- Whichever way a row finds a child, what a step does to the rows leaves those that wait filed.
-- Assumes nothing.
use Rattle.filing.proofs.Heading as heading
use Rattle.filing.proofs.Leaving as leaving
use Rattle.heaps.specs.declared.Heaps.{Heaps}
use Rattle.heaps.specs.Kept.{forest_in}
use Rattle.looking.specs.declared.Looking.{Looking}
use Rattle.choosing.specs.Filed.{AllListed, InHeaps, Keeps}

pub list_kept : (looking : Looking) → Keeps (AllListed looking)
list_kept looking =
    record {
      headed = λ tree sound class_of why k packet length class a sender none its old. old;
      set_aside = λ tree sound class_of a k none old. old;
      line_left = λ tree sound class_of a settled busy old. old;
      renamed = λ tree class_of other a named old. old;
    }

pub heaps_kept : (heaps : Heaps) → Keeps (InHeaps heaps)
heaps_kept heaps =
    record {
      headed = λ tree sound class_of why k packet length class a. heading.headed tree sound class_of why k packet length class a (forest_in heaps);
      set_aside = λ tree sound class_of a k. heading.set_aside tree sound class_of a k (forest_in heaps);
      line_left = λ tree sound class_of a. leaving.line_left tree sound class_of a (forest_in heaps);
      renamed = λ tree class_of other a named old.
          record {
            full = old.full;
            named = named;
            owned = old.owned;
            home = old.home;
            heaps = old.heaps;
            filed = old.filed;
            at_home = old.at_home;
          };
    }
