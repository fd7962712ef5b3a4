-- The promise's number for one list, worked by hand, with the ticks of each step.
-- Assumes nothing.
use Prim.Native.Nat.{ℕ}
use mathlib.Core.Path.{◌≡◌, refl}
use mathlib.Core.List.{List, [], ◌∷◌, map}
use Rattle.input.specs.Limits.{packets_a_step}
use Rattle.input.specs.Classes.{tree_of}
use Rattle.rules.specs.Outcome.{Lent}
use Rattle.rules.specs.Promise
use Rattle.rules.specs.Worked.{row, packet, finish, lend}
use Rattle.rules.proofs.Computing.{computing}

-- nine tenths of the line for class 100, three quarters of that for class 110, in row 3. Two packets of class 110 and one of class 120 are
-- finished, the largest of 1,500 bytes
pub nine_tenths : Lent
nine_tenths =
    lend (row 1 0 0 ∷ row 100 1 756 ∷ row 200 1 84 ∷ row 110 100 630 ∷ row 120 100 210 ∷ [])
    (packet 110 1000 ∷ packet 120 1500 ∷ packet 110 500 ∷ finish ∷ finish ∷ finish ∷ [])

abbrev finished : List ℕ
finished = 0 ∷ 1 ∷ 2 ∷ []

-- class 110's step has 2 ticks for its packets and 2 more, class 100's has 3 and 2
pub step_ticks : map (Promise.ticks_for (tree_of nine_tenths.table) nine_tenths.events finished) (3 ∷ 1 ∷ []) ≡ 4 ∷ 5 ∷ []
unfolding computing nine_tenths
step_ticks = refl

-- (1,500 + 4,500) · 840 / 630 + 4 / 840 = 8,000 + 4 / 840; then (8,000 + 4 / 840 + 4,500) · 840 / 756 + 5 / 840
pub number :
    Promise.line_most (tree_of nine_tenths.table) packets_a_step 1500
    (Promise.ticks_for (tree_of nine_tenths.table) nine_tenths.events finished) 3 1500
    ≡ record { numerator = 4667547778488000; denominator = 336063168000 }
unfolding computing nine_tenths
number = refl
