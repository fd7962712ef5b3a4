-- `from_packet` meets its contract, by its two tests.
-- Assumes nothing.
use borrow.Author.Tests.{lt-ltb, le-ltb}
use Rattle.input.specs.Limits.{least_bytes, most_bytes}
use Rattle.promise.specs.Arguments.{packet_asked}
use Rattle.promise.proofs.asked.from_packet.Goals as goal

pub returns-then-largest-lt-LEAST_BYTES : goal.returns-then-largest-lt-LEAST_BYTES
unfolding packet_asked
returns-then-largest-lt-LEAST_BYTES c = rw (lt-ltb _ least_bytes c.if-largest-lt-LEAST_BYTES.true)

pub returns-then-largest-gt-MOST_BYTES : goal.returns-then-largest-gt-MOST_BYTES
unfolding packet_asked
returns-then-largest-gt-MOST_BYTES c = rw (le-ltb _ least_bytes c.if-largest-lt-LEAST_BYTES.false, lt-ltb most_bytes _ c.if-largest-gt-MOST_BYTES.true)

pub returns : goal.returns
unfolding packet_asked
returns c = rw (le-ltb _ least_bytes c.if-largest-lt-LEAST_BYTES.false, le-ltb most_bytes _ c.if-largest-gt-MOST_BYTES.false) c.from_own.ensures
