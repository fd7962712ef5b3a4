-- P1 to P12 come out of the definitions: one statement over the whole list, proved by computing it.
-- Assumes nothing.
use mathlib.Core.Path.{refl}
use Rattle.rules.specs.Worked
use Rattle.rules.proofs.Computing.{computing}

pub worked : Worked.ComeOut Worked.runs
unfolding computing Worked.p1 Worked.p2 Worked.p3 Worked.p4 Worked.p5 Worked.p6 Worked.p7 Worked.p8 Worked.p9 Worked.p10 Worked.p11 Worked.p12
    Worked.runs
worked = refl
