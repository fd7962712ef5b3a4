-- `records::fields::microseconds` meets its contract: what a second and its fraction come to is below 2^53.
-- Assumes nothing.
use native.Mathlib.Omega.{arith}
use Rattle.pcap.specs.Records.{microseconds}
use Rattle.records.proofs.fields.microseconds.Goals as goal

pub returns-then-layout : goal.returns-then-layout
unfolding microseconds
returns-then-layout c = (omega arith, rw c.if-layout.true (omega arith))

pub returns : goal.returns
unfolding microseconds
returns c = (omega arith, rw c.if-layout.false (omega arith))
