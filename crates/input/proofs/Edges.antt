-- Charges at the edges, computed: the shortest and the longest packet, with the least share, ones that divide the scale, ones that do not, and
-- the whole.
-- Assumes nothing.
use mathlib.Core.Path.{◌≡◌, refl}
use mathlib.Core.List.{[], ◌∷◌, map}
use Rattle.input.specs.Shares.{rounded_up, charge}

pub least_charges : map (charge 1) (1 ∷ 420 ∷ 756 ∷ 839 ∷ 840 ∷ []) ≡ 705600 ∷ 1680 ∷ 934 ∷ 842 ∷ 840 ∷ []
unfolding charge rounded_up
least_charges = refl

pub most_charges : map (charge 9000) (1 ∷ 420 ∷ 756 ∷ 839 ∷ 840 ∷ []) ≡ 6350400000 ∷ 15120000 ∷ 8400000 ∷ 7569011 ∷ 7560000 ∷ []
unfolding charge rounded_up
most_charges = refl
