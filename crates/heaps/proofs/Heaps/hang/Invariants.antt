-- `Heaps::hang` meets its contract: what remains to be melded is all that was to be melded at first.
-- Assumes nothing.
use Prim.Native.Nat.{◌-◌, ◌<◌}
use mathlib.Core.Path.{◌≡◌}
use Rattle.heaps.specs.Sizes.{most_members}
use Rattle.heaps.specs.Order.{before}
use Rattle.heaps.specs.Links.{hung}
use Rattle.heaps.specs.Kept.{links_in}
use Rattle.heaps.proofs.Heaps.hang.Given as goal

abbrev pub invariant-loop-turn : goal.invariant-loop-turn
invariant-loop-turn l =
    (l.at < most_members)
    × (hung (before l.keys l.ties) (most_members - l._turn) l.at l.x l.y (links_in l.self) ≡ hung (before l.keys l.ties) most_members 0 l.a l.b (links_in l.initial.self))
    × (l.self.roots ≡ l.initial.self.roots)
