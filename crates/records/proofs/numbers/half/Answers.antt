-- `records::numbers::half` meets its contract: the two bytes in the one order or in the other.
-- Assumes nothing.
use native.Mathlib.Omega.{arith}
use Rattle.octets.specs.Octets.{number_of}
use Rattle.pcap.specs.Headers.{half_at}
use Rattle.records.proofs.numbers.half.Goals as goal

pub returns-then-big : goal.returns-then-big
unfolding half_at number_of
returns-then-big c = rw c.if-big.true (omega (arith, c.from_be_bytes.ensures))

pub returns : goal.returns
unfolding half_at number_of
returns c = rw c.if-big.false (omega (arith, c.from_le_bytes.ensures))
