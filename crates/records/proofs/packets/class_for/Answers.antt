-- `records::packets::class_for` meets its contract: each answer by where the code point lies.
-- Assumes nothing.
use native.Mathlib.Omega.{arith}
use borrow.Author.Tests.{eq-eqb, ne_eqb, le-leb, lt-leb}
use Rattle.pcap.specs.Records.{class_for}
use Rattle.records.proofs.packets.class_for.Goals as goal

pub returns-in-8-to-39 : goal.returns-in-8-to-39
unfolding class_for
returns-in-8-to-39 c =
    let p = c.args.point in
    rw (ne_eqb p 46 (omega arith), lt-leb 48 p (omega arith), le-leb 8 p (omega arith), le-leb p 39 (omega arith))

pub returns-in_default : goal.returns-in_default
unfolding class_for
returns-in_default c =
    let p = c.args.point in
    rw (ne_eqb p 46 (omega arith), lt-leb 48 p (omega arith), lt-leb 8 p (omega arith))

pub returns-in_default-2 : goal.returns-in_default-2
unfolding class_for
returns-in_default-2 c =
    let p = c.args.point in
    rw (ne_eqb p 46 (omega arith), lt-leb 48 p (omega arith), le-leb 8 p (omega arith), lt-leb p 39 (omega arith))

pub returns-in_default-3 : goal.returns-in_default-3
unfolding class_for
returns-in_default-3 c =
    let p = c.args.point in
    rw (ne_eqb p 46 (omega arith), le-leb 48 p (omega arith), lt-leb p 63 (omega arith), le-leb 8 p (omega arith), lt-leb p 39 (omega arith))

pub returns-in-46 : goal.returns-in-46
unfolding class_for
returns-in-46 c = rw (eq-eqb c.args.point 46 (omega arith))

pub returns-in-46-2 : goal.returns-in-46-2
unfolding class_for
returns-in-46-2 c =
    let p = c.args.point in
    rw (ne_eqb p 46 (omega arith), le-leb 48 p (omega arith), le-leb p 63 (omega arith))
