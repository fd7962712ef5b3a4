-- The contracts leave no choice: no two different outcomes meet one.
-- Assumes nothing.
use Prim.Native.Nat.{ℕ}
use mathlib.Core.Path.{sym, ap, ◌∙◌}
use mathlib.Core.List.{List}
use Rattle.words.specs.Unique.{Unique}
use Rattle.std.specs.Prelude.{Ok, Err}
use Rattle.pcap.specs.declared.Sorting.{Sorting}
use Rattle.pcap.specs.Lists.{Arrivals}
use Rattle.records.specs.Scans.{Scans}
use Rattle.records.specs.Reads.{Reads}

pub one_scan : (capture : List ℕ) (rate : ℕ) → Unique (Scans capture rate)
one_scan capture rate (Ok a) (Ok b) one other = ap Ok (one.1 ∙ sym other.1)
one_scan capture rate (Ok a) (Err b) one other = absurd (other.0 one.0)
one_scan capture rate (Err a) (Ok b) one other = absurd (one.0 other.0)
one_scan capture rate (Err a) (Err b) one other = ap Err (one.1 ∙ sym other.1)

pub one_reading : (capture : List ℕ) (sorting : Sorting) (lent : Arrivals) → Unique (Reads capture sorting lent)
one_reading capture sorting lent one other first second =
    rw (first.stamps ∙ sym second.stamps, first.classes ∙ sym second.classes, first.lengths ∙ sym second.lengths)
