-- `read_bytes` meets its contract: the bytes still to come make of the columns so far what all bytes make of those at the start.
-- Assumes nothing.
use Rattle.std.proofs.Common.{◌≡◌, length, drop}
use Rattle.files.specs.Columns.{columns_of, with_bytes}
use Rattle.files.proofs.reading.read_bytes.Given as goal

abbrev pub invariant-loop-byte : goal.invariant-loop-byte
invariant-loop-byte l =
    (length l.first ≡ length l.initial.first)
    × (length l.second ≡ length l.initial.second)
    × (with_bytes (columns_of l.scan l.first l.second) (drop l.byte-index l.bytes) ≡ with_bytes (columns_of l.initial.scan l.initial.first l.initial.second) l.bytes)
