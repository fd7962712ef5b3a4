-- The arrays that the heaps are kept in, as a forest.
use Rattle.std.specs.Prelude.{replicate}
use Rattle.heaps.specs.declared.Heaps.{Heaps}
use Rattle.heaps.specs.Sizes.{most_members, most_heaps}
use Rattle.heaps.specs.Links.{Links, links}
use Rattle.heaps.specs.Heaps.{Forest, forest}

abbrev pub links_in : Heaps → Links
links_in heaps = links heaps.left heaps.right

abbrev pub forest_in : Heaps → Forest
forest_in heaps = forest heaps.roots heaps.left heaps.right

-- every heap is empty
unfoldable pub no_heaps : Heaps
no_heaps = record { roots = replicate most_heaps 0; left = replicate most_members 0; right = replicate most_members 0 }
