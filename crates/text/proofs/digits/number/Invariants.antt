-- `number` meets its contract: the bytes still to come make of the field so far what all bytes make of the empty one.
-- Assumes nothing.
use mathlib.Core.Path.{◌≡◌}
use lib.ListN.{drop}
use Rattle.text.specs.Reading.{with_bytes, field_of}
use Rattle.text.proofs.digits.number.Given as goal

abbrev pub invariant-loop-byte : goal.invariant-loop-byte
invariant-loop-byte l = with_bytes l.field (drop l.byte-index l.fn.bytes) ≡ field_of l.fn.bytes
