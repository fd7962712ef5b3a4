-- The invariant of the loop of `fill`: the slices hold the rows of the bytes so far.
use mathlib.Core.Path.{◌≡◌}
use lib.ListN.{length, take}
use Rattle.input.specs.Lent.{table_of}
use Rattle.forms.specs.Faults.{read_text}
use Rattle.forms.specs.Outcomes.{table_over}
use Rattle.csv_text.proofs.scans.fill.Given as goal

abbrev pub invariant-loop-byte : goal.invariant-loop-byte
invariant-loop-byte l =
    (l.scan ≡ (read_text (take l.byte-index l.text)).scan)
    × (table_of l.identifiers l.parents l.shares
    ≡ table_over (read_text (take l.byte-index l.text)).table (table_of l.initial.identifiers l.initial.parents l.initial.shares))
    × (length l.identifiers ≡ length l.initial.identifiers)
    × (length l.parents ≡ length l.initial.parents)
    × (length l.shares ≡ length l.initial.shares)
