-- `records::numbers::word` meets its contract: the four bytes in the one order or in the other.
-- Assumes nothing.
use native.Mathlib.Omega.{arith}
use Rattle.octets.specs.Octets.{number_of}
use Rattle.pcap.specs.Headers.{word_at}
use Rattle.records.proofs.numbers.word.Goals as goal

pub returns-then-big : goal.returns-then-big
unfolding word_at number_of
returns-then-big c = rw c.if-big.true (omega (arith, c.from_be_bytes.ensures))

pub returns : goal.returns
unfolding word_at number_of
returns c = rw c.if-big.false (omega (arith, c.from_le_bytes.ensures))
