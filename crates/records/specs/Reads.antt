-- What reading a capture's records asks, and what it leaves.
use Rattle.std.specs.Prelude.{ℕ, ◌≤◌, ◌<◌, ◌^◌, ◌≡◌, List, length}
use Rattle.rules.specs.Outcome.{over}
use Rattle.pcap.specs.declared.Layout.{Layout}
use Rattle.pcap.specs.declared.Sorting.{Sorting}
use Rattle.pcap.specs.Headers.{header_bytes, layout_of}
use Rattle.pcap.specs.Records.{record_count}
use Rattle.pcap.specs.Faults.{records_refused}
use Rattle.pcap.specs.Lists.{Arrivals, stamp_of}
use Rattle.pcap.specs.Outcomes.{arrivals_of}

-- what a check that refuses nothing has found
pub record Found (capture : List ℕ) (layout : Layout) (records : ℕ) : Type 0 where
  pub headed : header_bytes ≤ length capture
  pub laid : layout ≡ layout_of capture
  pub fine : (records_refused capture).number ≡ 0
  pub counted : records ≡ record_count capture

-- the records as arrivals, over the first words of three slices
pub record Reads (capture : List ℕ) (sorting : Sorting) (lent left : Arrivals) : Type 0 where
  pub stamps : left.stamps ≡ over (arrivals_of capture sorting).stamps lent.stamps
  pub classes : left.classes ≡ over (arrivals_of capture sorting).classes lent.classes
  pub lengths : left.lengths ≡ over (arrivals_of capture sorting).lengths lent.lengths
  pub small : (k : ℕ) → k < record_count capture → stamp_of left k < 2 ^ 53
