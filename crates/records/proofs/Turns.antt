-- A turn of each loop: one record more.
-- Assumes nothing.
use Prim.Native.Nat.{ℕ, zero, suc, ◌+◌, ◌≤◌, ◌<◌, ◌^◌}
use mathlib.Core.Path.{◌≡◌, refl, ◌∙◌, ap}
use mathlib.Core.List.{List, [], ◌∷◌}
use native.Mathlib.Decide.{ℕ_discrete}
use native.Mathlib.Numerals.{add-one}
use native.Mathlib.Omega.{arith}
use lib.ListN.{length, get_or, set, length-append}
use lib.Seq.{get_or-set_same, get_or-set_other}
use Rattle.rules.specs.Outcome.{over}
use Rattle.rules.proofs.Over.{over_more}
use Rattle.pcap.specs.declared.Layout.{Layout}
use Rattle.pcap.specs.declared.Sorting.{Sorting}
use Rattle.pcap.specs.Headers.{record_bytes}
use Rattle.pcap.specs.Records.{offset, field_at, included_at, packet_at, stamp_at, stamp, original, least_header, code_point, class_for, class_of, record_count}
use Rattle.pcap.specs.Lists.{Arrivals, stamp_of}
use Rattle.pcap.specs.Outcomes.{arrivals_below, arrivals_of}
use Rattle.records.specs.Scans.{stamp_before, Next}
use Rattle.records.specs.Reads.{Reads}
use Rattle.records.proofs.Laid.{packet_length}
use Rattle.records.proofs.Passing.{offset_next, offset_grows, Whole}

-- the byte at which the next record begins
pub begins_next : (capture : List ℕ) (k at bytes : ℕ) → at ≡ offset capture k → bytes ≡ included_at capture at
    → at + record_bytes + bytes ≡ offset capture (k + 1)
begins_next capture k at bytes begins includes = rw (add-one k, offset_next capture k, ← begins, includes) refl

-- ── checking ──

pub next_more : (capture : List ℕ) (layout : Layout) (k at last bytes stamped : ℕ) → Next capture layout k at last → Whole capture k
    → bytes ≡ included_at capture at → stamped ≡ stamp_at capture at → Next capture layout (k + 1) (at + record_bytes + bytes) stamped
unfolding stamp_before
next_more capture layout k at last bytes stamped next whole includes stamps =
    let begins = begins_next capture k at bytes next.begins includes in
    let more = offset_next capture k in
    let there = whole.there in
    record {
      laid = next.laid;
      begins = begins;
      inside = rw (begins, add-one k, more) there;
      before = rw (add-one k) (stamps ∙ ap (stamp_at capture) next.begins);
    }

-- ── looking for the byte at which record k begins ──

pub goes_on : (capture : List ℕ) (k passed at : ℕ) → at ≡ offset capture passed → passed < k → offset capture k ≤ length capture
    → (at + record_bytes + included_at capture at ≤ length capture) × (at + record_bytes + included_at capture at ≡ offset capture (passed + 1))
goes_on capture k passed at begins before inside =
    let next = begins_next capture passed at (included_at capture at) begins refl in
    let grows = offset_grows capture (passed + 1) k (omega arith) in
    (omega arith, next)

-- ── reading ──

module _ (capture : List ℕ) (k at : ℕ) (begins : at ≡ offset capture k) (whole : Whole capture k) where
  pub whole_at : at + record_bytes + included_at capture at ≤ length capture
  whole_at = rw begins whole.there

  -- the packet's first two bytes are there
  pub two_bytes : 1 < length (packet_at capture at)
  two_bytes =
      let there = whole_at in
      let long : least_header ≤ included_at capture at = rw begins whole.long in
      rw (packet_length capture at (included_at capture at) refl (omega arith)) (omega arith)

module _ (capture : List ℕ) (sorting : Sorting) where
  pub stamps_long : (k : ℕ) → length (arrivals_below capture sorting k).stamps ≡ k
  unfolding arrivals_below
  stamps_long zero = refl
  stamps_long (suc k) = let before = stamps_long k in simp length-append (omega arith)

  pub classes_long : (k : ℕ) → length (arrivals_below capture sorting k).classes ≡ k
  unfolding arrivals_below
  classes_long zero = refl
  classes_long (suc k) = let before = classes_long k in simp length-append (omega arith)

  pub lengths_long : (k : ℕ) → length (arrivals_below capture sorting k).lengths ≡ k
  unfolding arrivals_below
  lengths_long zero = refl
  lengths_long (suc k) = let before = lengths_long k in simp length-append (omega arith)

  -- the first k records are read
  pub record ReadTo (lent left : Arrivals) (k : ℕ) : Type 0 where
    pub stamps : left.stamps ≡ over (arrivals_below capture sorting k).stamps lent.stamps
    pub classes : left.classes ≡ over (arrivals_below capture sorting k).classes lent.classes
    pub lengths : left.lengths ≡ over (arrivals_below capture sorting k).lengths lent.lengths
    pub small : (i : ℕ) → i < k → stamp_of left i < 2 ^ 53

  pub read_none : (lent : Arrivals) → ReadTo lent lent 0
  unfolding arrivals_below over
  read_none lent = record { stamps = refl; classes = refl; lengths = refl; small = λ i below. absurd (omega arith) }

  -- and then record k, which begins at this byte
  module _ (lent left after : Arrivals) (k at : ℕ) (read : ReadTo lent left k) (begins : at ≡ offset capture k) where
    small_more : k < length left.stamps → stamp_at capture at < 2 ^ 53 → (i : ℕ) → i < suc k
        → get_or (set left.stamps k (stamp_at capture at)) i 0 < 2 ^ 53
    small_more room low i below = go (ℕ_discrete i k)
      where
        go : Dec (i ≡ k) → get_or (set left.stamps k (stamp_at capture at)) i 0 < 2 ^ 53
        go (yes same) = rw (same, get_or-set_same left.stamps k (stamp_at capture at) 0 room) low
        go (no other) = rw (get_or-set_other left.stamps k i (stamp_at capture at) 0 other) (read.small i (omega arith))

    pub read_more : k < length lent.stamps → k < length lent.classes → k < length lent.lengths → k < length left.stamps
        → stamp_at capture at < 2 ^ 53
        → after.stamps ≡ set left.stamps k (stamp_at capture at)
        → after.classes ≡ set left.classes k (class_for sorting (code_point (packet_at capture at)))
        → after.lengths ≡ set left.lengths k (field_at capture at 12)
        → ReadTo lent after (k + 1)
    unfolding arrivals_below
    read_more in_stamps in_classes in_lengths room low stamps classes lengths =
        let before = arrivals_below capture sorting k in
        rw (add-one k)
        (record {
          stamps =
              stamps ∙ ap (λ (x : ℕ). set left.stamps k (stamp_at capture x)) begins
              ∙ over_more before.stamps (stamp capture k ∷ []) lent.stamps left.stamps k (stamps_long k) (omega arith) read.stamps;
          classes =
              classes ∙ ap (λ (x : ℕ). set left.classes k (class_for sorting (code_point (packet_at capture x)))) begins
              ∙ over_more before.classes (class_of capture sorting k ∷ []) lent.classes left.classes k (classes_long k) (omega arith)
              read.classes;
          lengths =
              lengths ∙ ap (λ (x : ℕ). set left.lengths k (field_at capture x 12)) begins
              ∙ over_more before.lengths (original capture k ∷ []) lent.lengths left.lengths k (lengths_long k) (omega arith)
              read.lengths;
          small = rw stamps (small_more room low);
        })

  pub read_all : (lent left : Arrivals) (k : ℕ) → ReadTo lent left k → k ≡ record_count capture → Reads capture sorting lent left
  unfolding arrivals_of
  read_all lent left k read all =
      record {
        stamps = rw (← all) read.stamps;
        classes = rw (← all) read.classes;
        lengths = rw (← all) read.lengths;
        small = rw (← all) read.small;
      }
