-- Each contract leaves no choice.
-- Assumes nothing.
use Prim.Native.Nat.{ℕ}
use mathlib.Core.List.{List}
use Rattle.words.specs.Unique.{Unique}
use Rattle.words.proofs.Determined.{determined}
use Rattle.text.specs.declared.Scan.{Scan}
use Rattle.text.specs.Reading.{Found, field_of, unread, after, at_end, wrong}
use Rattle.text.specs.Stated.{Begins, Feeds, Finishes, Faults, Numbers}

pub one_beginning : Unique Begins
one_beginning = determined unread

pub one_scan : (scan : Scan) (byte : ℕ) → Unique (Feeds scan byte)
one_scan scan byte = determined (after scan byte)

pub one_ending : (scan : Scan) → Unique (Finishes scan)
one_ending scan = determined (at_end scan)

pub one_fault : (found : Found) → Unique (Faults found)
one_fault found = determined (wrong found)

pub one_number : (bytes : List ℕ) → Unique (Numbers bytes)
one_number bytes = determined (field_of bytes)
