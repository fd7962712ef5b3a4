-- `read_bytes` meets its contract: the bytes still to come make of the columns so far what all bytes make of those at the start.
-- Assumes nothing.
use Rattle.std.proofs.Common.{◌≡◌, length, rules}
use native.Mathlib.Numerals.{add-one}
use native.Mathlib.Omega.{arith}
use lib.Seq.{drop-cons, drop-length}
use Rattle.files.specs.Columns.{with_bytes}
use Rattle.files.proofs.reading.read_bytes.Goals as goal

pub loop-byte-preserved : goal.loop-byte-preserved
unfolding with_bytes
loop-byte-preserved c =
    let at = c.loop-byte in
    let bytes = c.args.bytes.now in
    (search rules, search rules, rw (c.step-scan.ensures, add-one) (rw (drop-cons bytes at.byte-index 0 c.loop-byte-test.true) at at.invariant.2))

pub returns : goal.returns
unfolding with_bytes
returns c =
    let at = c.loop-byte in
    let bytes = c.args.bytes.now in
    let end : at.byte-index ≡ length bytes = omega arith in
    rw (end, drop-length bytes) at at.invariant.2
