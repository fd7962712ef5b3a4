-- What the check of a capture answers, and what is known before each record.
use Rattle.std.specs.Prelude.{ℕ, zero, suc, ◌≤◌, ◌≡◌, List, length, Result}
use Rattle.input.specs.declared.Refusal.{Refusal}
use Rattle.pcap.specs.declared.Layout.{Layout}
use Rattle.pcap.specs.Headers.{layout_of}
use Rattle.pcap.specs.Records.{offset, record_count, stamp}
use Rattle.pcap.specs.Faults.{capture_refused}
use Rattle.records.specs.declared.Scan.{Scan}
use Rattle.tables.specs.Judged.{Judged}

-- ── the answer ──

-- what there is to find
abbrev pub scan_of : List ℕ → Scan
scan_of capture = record { layout = layout_of capture; records = record_count capture }

-- the first refusal, or what was found
abbrev pub Scans : List ℕ → ℕ → Result Scan Refusal → Type 0
Scans capture rate scan = Judged (capture_refused capture rate) (scan_of capture) scan

-- ── before record k ──

-- the stamp of the record before it
unfoldable pub stamp_before : List ℕ → ℕ → ℕ
stamp_before capture zero = 0
stamp_before capture (suc k) = stamp capture k

-- how numbers are stored, the byte at which the record begins, and the stamp before it
pub record Next (capture : List ℕ) (layout : Layout) (k at last : ℕ) : Type 0 where
  pub laid : layout ≡ layout_of capture
  pub begins : at ≡ offset capture k
  pub inside : at ≤ length capture
  pub before : last ≡ stamp_before capture k
