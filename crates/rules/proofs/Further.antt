-- The further worked runs come out of the definitions: one statement over the whole list, proved by computing it.
-- Assumes nothing.
use mathlib.Core.Path.{refl}
use Rattle.rules.specs.Worked.{ComeOut}
use Rattle.rules.specs.Further
use Rattle.rules.proofs.Computing.{computing}

pub further : ComeOut Further.runs
unfolding computing Further.not_eligible Further.behind Further.inner Further.head_counts Further.waited Further.lengths Further.rounding_decides Further.rounding_adds_up
    Further.largest_identifiers Further.one_on_air Further.root_on_air Further.class_on_air Further.untouched Further.runs
further = refl
