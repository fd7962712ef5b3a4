-- A record's numbers and its packet, by the layout that was found.
-- Assumes nothing.
use Prim.Native.Nat.{ℕ, zero, suc, pred, ◌+◌, ◌-◌, ◌≤◌, ◌<◌}
use mathlib.Core.Path.{◌≡◌, refl, sym, ◌∙◌, ap}
use mathlib.Core.List.{List}
use native.Mathlib.Omega.{arith}
use lib.Dec.{ltb}
use lib.ListN.{length, take, drop, length-take, length-drop}
use lib.Seq.{take_all}
use borrow.Author.Tests.{le-ltb}
use Rattle.pcap.specs.declared.Layout.{Layout}
use Rattle.pcap.specs.Headers.{record_bytes, word_at, layout_of}
use Rattle.pcap.specs.Records.{field_at, included_at, packet_at, stamp}
use Rattle.records.specs.Scans.{stamp_before}

-- ── numbers ──

module _ (capture : List ℕ) (layout : Layout) (laid : layout ≡ layout_of capture) where
  pub by_layout : (at field : ℕ) → word_at layout.big capture (at + field) ≡ field_at capture at field
  unfolding field_at
  by_layout at field = ap (λ (l : Layout). word_at l.big capture (at + field)) laid

  pub first_by_layout : (at : ℕ) → word_at layout.big capture at ≡ field_at capture at 0
  first_by_layout at = let same : at ≡ at + 0 = omega arith in ap (word_at layout.big capture) same ∙ by_layout at 0

-- ── packets ──

module _ (capture : List ℕ) (at bytes : ℕ) (includes : bytes ≡ included_at capture at) where
  -- as much of it as is there
  pub packet_cut : length capture - (at + record_bytes) < bytes
      → take (length capture - (at + record_bytes)) (drop (at + record_bytes) capture) ≡ packet_at capture at
  unfolding packet_at
  packet_cut less =
      let rest = drop (at + record_bytes) capture in
      let left = length-drop (at + record_bytes) capture in
      take_all (length capture - (at + record_bytes)) rest (omega arith) ∙ sym (take_all (included_at capture at) rest (omega arith))

  pub packet_there : take (at + record_bytes + bytes - (at + record_bytes)) (drop (at + record_bytes) capture) ≡ packet_at capture at
  unfolding packet_at
  packet_there =
      let same : at + record_bytes + bytes - (at + record_bytes) ≡ included_at capture at = omega arith in
      ap (λ (n : ℕ). take n (drop (at + record_bytes) capture)) same

  -- it is whole where the capture goes on as long
  pub packet_length : bytes ≤ length capture - at - record_bytes → length (packet_at capture at) ≡ bytes
  unfolding packet_at
  packet_length room = simp (length-take, length-drop) (omega arith)

-- ── stamps ──

-- the first record has none before it, and is not before itself
pub in_order : (capture : List ℕ) (k : ℕ) → ltb (stamp capture k) (stamp capture (pred k)) ≡ ltb (stamp capture k) (stamp_before capture k)
unfolding stamp_before
in_order capture zero = le-ltb (stamp capture 0) (stamp capture 0) (omega arith) ∙ sym (le-ltb (stamp capture 0) 0 (omega arith))
in_order capture (suc k) = refl
