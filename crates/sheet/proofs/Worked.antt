-- Figures worked out by hand, computed from the definitions.
-- Assumes nothing.
use Prim.Native.Nat.{ℕ}
use mathlib.Core.Path.{◌≡◌, refl}
use mathlib.Core.Bool.{true, false}
use mathlib.Core.List.{[], ◌∷◌, ◌++◌, map}
use Rattle.input.specs.Shares.{rounded_up}
use Rattle.rules.specs.Promise.{step_up}
use Rattle.sheet.specs.Paper.{Figure}
use Rattle.sheet.specs.Paper.{fraction, divides_both, greatest, lowest, figure, outgrown, fitting, by_share, sum_of, with_ticks, stepped, climbing, worked, dividing}
use Rattle.sheet.specs.Stated.{Ticks}

-- the example of docs/FAIRNESS.md, with so many ticks: class 110, in row 3, finished 6,000 bytes, and the largest packet has 1,500
pub alfa : ℕ → ℕ → Figure
alfa more steps = worked steps (0 ∷ 0 ∷ 0 ∷ 1 ∷ 1 ∷ 2 ∷ 2 ∷ []) (0 ∷ 560 ∷ 280 ∷ 630 ∷ 210 ∷ 420 ∷ 420 ∷ []) 1500 more 3 6000

-- a share of 756 twice, which does not divide the scale
pub twice : ℕ → Figure
twice steps = worked steps (0 ∷ 0 ∷ 1 ∷ []) (0 ∷ 756 ∷ 756 ∷ []) 1500 65538 2 6000

-- a byte of its own and three packets of 100 over a share of 9: 301 · 840 / 9 = 301 · 280 / 3
pub ninth : Figure
ninth = worked 1 (0 ∷ 0 ∷ []) (0 ∷ 9 ∷ []) 100 0 1 1

-- up eight levels, on each of which the share is 1: without ticks the sixth power of 840 is the last that fits, with one the fifth
pub ones : ℕ → ℕ → Figure
ones more steps = worked steps (0 ∷ 0 ∷ 1 ∷ 2 ∷ 3 ∷ 4 ∷ 5 ∷ 6 ∷ 7 ∷ []) (0 ∷ 1 ∷ 1 ∷ 1 ∷ 1 ∷ 1 ∷ 1 ∷ 1 ∷ 1 ∷ []) 0 more 8 1

-- a byte and so many ticks: 840 ticks and those, over 840
pub edge : ℕ → Figure
edge more = worked 1 (0 ∷ 0 ∷ []) (0 ∷ 840 ∷ []) 0 more 1 1

-- a byte over a share of 420, twice, with 420 ticks: half a byte more after each division
pub halves : ℕ → Figure
halves steps = worked steps (0 ∷ 0 ∷ 1 ∷ []) (0 ∷ 420 ∷ 420 ∷ []) 0 420 2 1

pub halves_added : map halves (1 ∷ 2 ∷ []) ≡ figure (fraction 5 2) ∷ figure (fraction 11 2) ∷ []
unfolding halves worked climbing stepped with_ticks sum_of by_share step_up fitting lowest greatest divides_both
halves_added = refl

pub figures :
    map (alfa 65538) (0 ∷ 1 ∷ 2 ∷ []) ++ map (alfa 0) (0 ∷ 1 ∷ 2 ∷ []) ++ map twice (1 ∷ 2 ∷ []) ++ (ninth ∷ [])
    ≡ figure (fraction 6000 1)
    ∷ figure (fraction 1970923 140)
    ∷ figure (fraction 1564923 56)
    ∷ figure (fraction 6000 1)
    ∷ figure (fraction 14000 1)
    ∷ figure (fraction 27750 1)
    ∷ figure (fraction 4932769 420)
    ∷ figure (fraction 68522611 3780)
    ∷ figure (fraction 84280 3)
    ∷ []
unfolding alfa twice ninth worked climbing stepped with_ticks sum_of by_share step_up fitting lowest greatest divides_both
figures = refl

-- the last that fit, and the first that do not: the ticks alone outgrow the words in the second of `edge`
pub sizes :
    map (ones 0) (6 ∷ 7 ∷ 8 ∷ []) ++ map (ones 1) (5 ∷ 6 ∷ []) ++ map edge (18446744073709550773 ∷ 18446744073709550777 ∷ [])
    ≡ figure (fraction 351298031616000000 1)
    ∷ outgrown
    ∷ outgrown
    ∷ figure (fraction 351298530080770441 840)
    ∷ outgrown
    ∷ figure (fraction 18446744073709551613 840)
    ∷ outgrown
    ∷ []
unfolding ones edge worked climbing stepped with_ticks sum_of by_share step_up fitting lowest greatest divides_both
sizes = refl

-- rounded up: with ticks and without, a third of a byte, and what has outgrown the words
pub roundings :
    rounded_up 1564923 56 ∷ rounded_up 27750 1 ∷ rounded_up 84280 3 ∷ rounded_up 0 0 ∷ [] ≡ 27946 ∷ 27750 ∷ 28094 ∷ 0 ∷ []
unfolding rounded_up
roundings = refl

-- which shares on the way divide the scale: 630 and 560; not 756; 630 below 756; and none that is missing
pub divisions :
    dividing 2 (0 ∷ 0 ∷ 1 ∷ []) (0 ∷ 560 ∷ 630 ∷ []) 2
    ∷ dividing 1 (0 ∷ 0 ∷ []) (0 ∷ 756 ∷ []) 1
    ∷ dividing 1 (0 ∷ 0 ∷ 1 ∷ []) (0 ∷ 756 ∷ 630 ∷ []) 2
    ∷ dividing 2 (0 ∷ 0 ∷ 1 ∷ []) (0 ∷ 756 ∷ 630 ∷ []) 2
    ∷ dividing 1 [] [] 0
    ∷ []
    ≡ true ∷ false ∷ true ∷ false ∷ false ∷ []
unfolding dividing
divisions = refl

-- two ticks for no packet, and as many as there are at most by default
pub tick_counts : Ticks 0 2 × Ticks 65536 65538
tick_counts = (refl, refl)
