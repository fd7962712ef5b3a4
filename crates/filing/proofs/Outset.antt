-- Before the first event nobody waits, and nothing is in a heap.
-- Assumes nothing.
use Prim.Native.Nat.{ℕ}
use mathlib.Core.Path.{refl}
use lib.ListN.{replicate}
use Rattle.input.specs.Classes.{Tree}
use Rattle.rules.specs.Box.{fresh}
use Rattle.laws.proofs.Event.Outset.{zeros_at}
use Rattle.laws.proofs.Tree.Trees.{zeros_full}
use Rattle.heaps.specs.Sizes.{most_heaps, most_members}
use Rattle.heaps.specs.Heaps.{forest}
use Rattle.heaps.proofs.Laws.{none_in}
use Rattle.filing.specs.Heaped.{Heaped}

pub none_waits :
    (tree : Tree) (class_of : ℕ → ℕ)
    → Heaped tree class_of fresh.rows 0 (forest (replicate most_heaps 0) (replicate most_members 0) (replicate most_members 0))
unfolding fresh
none_waits tree class_of =
    record {
      full =
          record {
            starts_full = zeros_full;
            finishes_full = zeros_full;
            virtuals_full = zeros_full;
            heads_full = zeros_full;
            head_lengths_full = zeros_full;
            head_classes_full = zeros_full;
          };
      named = λ r inside some. absurd (some (zeros_at r));
      owned = λ p x kid some. absurd (some (zeros_at p));
      home = λ x. 0;
      heaps = none_in _;
      filed = λ x at. absurd (at refl);
      at_home = λ x wait apart. absurd (wait.has (zeros_at x));
    }
