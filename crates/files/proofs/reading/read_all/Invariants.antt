-- `read_all` meets its contract: each turn reads more.
-- Assumes nothing.
use Rattle.std.proofs.Common.{◌≡◌, length}
use Rattle.files.specs.Columns.{columns_of, Filled}
use Rattle.files.proofs.reading.read_all.Given as goal

abbrev pub invariant-loop : goal.invariant-loop
invariant-loop g l =
    (length l.first ≡ length l.initial.first)
    × (length l.second ≡ length l.initial.second)
    × Filled (columns_of l.initial.scan l.initial.first l.initial.second) (columns_of l.scan l.first l.second)
