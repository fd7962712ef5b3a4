-- Walking from record to record: where each begins, and what is known once some have passed, one is refused, or the capture ends.
-- Assumes nothing.
use Prim.Native.Nat.{ℕ, zero, suc, ◌+◌, ◌*◌, ◌-◌, ◌≤◌, ◌<◌}
use mathlib.Core.Path.{◌≡◌, refl, sym, ◌∙◌, ap}
use mathlib.Core.Bool.{Bool, true, false, cond, not, ◌||◌}
use mathlib.Core.Logic.{◌≢◌}
use mathlib.Core.List.{List}
use mathlib.Mathlib.Data.Bool.Basic.{or-eq-false-eq-eq-false-and-eq-false as or-is-false}
use native.Mathlib.Decide.{ℕ_discrete, dec_lt}
use native.Mathlib.Omega.{arith}
use lib.Dec.{ltb, eqb}
use lib.ListN.{length}
use borrow.Author.Tests.{le-leb, lt-leb, ltb-false}
use Rattle.input.specs.declared.Refusal.{Refusal}
use Rattle.input.specs.Refusals.{nothing, given, first, first_below}
use Rattle.laws.proofs.Tree.Trees.{first_none, given_none, below_none}
use Rattle.tables.proofs.Firsts.{Plain, or_else_second, given_plain, or_else_plain, last_plain, stopped}
use Rattle.pcap.specs.Headers.{header_bytes, record_bytes}
use Rattle.pcap.specs.Records.{offset, ended, included, records_below, most_records, record_count, packet_of, least_header, ip_version, header_words}
use Rattle.pcap.specs.Faults.{record_place, not_ipv4, left_for, begun_refused, record_refused, records_refused}

module _ (capture : List ℕ) where
  -- ── where records begin ──

  pub offset_next : (k : ℕ) → offset capture (suc k) ≡ offset capture k + record_bytes + included capture k
  unfolding offset
  offset_next k = refl

  pub offset_least : (k : ℕ) → header_bytes + record_bytes * k ≤ offset capture k
  unfolding offset
  offset_least zero = omega arith
  offset_least (suc k) = let before = offset_least k in omega arith

  pub offset_grows : (k n : ℕ) → k ≤ n → offset capture k ≤ offset capture n
  offset_grows k zero below = let same : k ≡ 0 = omega arith in rw same (omega arith)
  offset_grows k (suc n) below = go (ℕ_discrete k (suc n)) (offset_grows k n)
    where
      go : Dec (k ≡ suc n) → (k ≤ n → offset capture k ≤ offset capture n) → offset capture k ≤ offset capture (suc n)
      go (yes same) before = rw same (omega arith)
      go (no other) before = let lower = before (omega arith) in let next = offset_next n in omega arith

  -- no more records than places
  below_most : (n : ℕ) → records_below capture n ≤ n
  unfolding records_below
  below_most zero = omega arith
  below_most (suc n) = let before = below_most n in let one = one_most (ended capture n) in omega arith
    where
      one_most : (b : Bool) → cond b 0 1 ≤ 1
      one_most true = omega arith
      one_most false = omega arith

  -- ── the capture has ended ──

  module _ (k : ℕ) (end : length capture ≤ offset capture k) where
    ended_on : (n : ℕ) → k ≤ n → ended capture n ≡ true
    unfolding ended
    ended_on n later = let grows = offset_grows k n later in le-leb (length capture) (offset capture n) (omega arith)

    -- no more records, and nothing more is refused
    count_on : (n : ℕ) → k ≤ n → records_below capture n ≡ records_below capture k
    unfolding records_below
    count_on zero later = let same : k ≡ 0 = omega arith in rw same refl
    count_on (suc n) later = go (ℕ_discrete k (suc n)) (count_on n)
      where
        go : Dec (k ≡ suc n) → (k ≤ n → records_below capture n ≡ records_below capture k)
            → records_below capture (suc n) ≡ records_below capture k
        go (yes same) before = rw same refl
        go (no other) before =
            let same = before (omega arith) in
            let stands = ended_on n (omega arith) in
            rw stands (omega arith)

    none_on : first_below (record_refused capture) k ≡ nothing → (n : ℕ) → k ≤ n → first_below (record_refused capture) n ≡ nothing
    unfolding first_below record_refused nothing
    none_on none zero later = refl
    none_on none (suc n) later = go (ℕ_discrete k (suc n)) (none_on none n)
      where
        go : Dec (k ≡ suc n) → (k ≤ n → first_below (record_refused capture) n ≡ nothing)
            → first_below (record_refused capture) (suc n) ≡ nothing
        go (yes same) before = ap (first_below (record_refused capture)) (sym same) ∙ none
        go (no other) before = rw (before (omega arith), ended_on n (omega arith)) (or_else_second nothing nothing refl)

    -- so there are no more than k
    count_most : (n : ℕ) → records_below capture n ≤ k
    count_most n = go (dec_lt n k)
      where
        go : Dec (n < k) → records_below capture n ≤ k
        go (yes before) = let most = below_most n in omega arith
        go (no other) = let same = count_on n (omega arith) in let most = below_most k in omega arith

  -- ── what is refused of a record that has begun ──

  begun : (k : ℕ) → offset capture k < length capture → record_refused capture k ≡ begun_refused capture k
  unfolding record_refused ended
  begun k inside = rw (lt-leb (length capture) (offset capture k) inside) refl

  pub begun_plain : (k : ℕ) → Plain (begun_refused capture k)
  unfolding begun_refused first
  begun_plain k =
      let place = record_place k in
      or_else_plain (given _ 35 place) _ (given_plain _ 35 place (omega arith))
      (or_else_plain (given _ 36 place) _ (given_plain _ 36 place (omega arith))
      (or_else_plain (given _ 37 place) _ (given_plain _ 37 place (omega arith))
      (last_plain (given _ 38 place) (given_plain _ 38 place (omega arith)))))

  -- its header and its packet are there, and the packet has an IPv4 header
  pub record Whole (k : ℕ) : Type 0 where
    pub there : offset capture k + record_bytes + included capture k ≤ length capture
    pub long : least_header ≤ included capture k

  pub whole : (k : ℕ) → offset capture k < length capture → (begun_refused capture k).number ≡ 0 → Whole k
  unfolding begun_refused not_ipv4
  whole k inside fine =
      let bytes = included capture k in
      let all = first_none _ fine in
      let header = ltb-false (left_for capture k) record_bytes (given_none _ _ _ all.0) in
      let packet = ltb-false (left_for capture k - record_bytes) bytes (given_none _ _ _ all.1.0) in
      let short = ltb bytes least_header in
      let version = not (eqb (ip_version (packet_of capture k)) 4) in
      let ipv4 = (or-is-false (short || version) (ltb (header_words (packet_of capture k)) 5)).0 (given_none _ _ _ all.1.1.0) in
      let long = ltb-false bytes least_header ((or-is-false short version).0 ipv4.0).0 in
      record { there = omega arith; long = long }

  -- ── the first k records have passed ──

  pub record Passed (k : ℕ) : Type 0 where
    pub none : first_below (record_refused capture) k ≡ nothing
    pub all : records_below capture k ≡ k

  pub passed_none : Passed 0
  unfolding first_below records_below
  passed_none = record { none = refl; all = refl }

  module _ (k : ℕ) (passed : Passed k) where
    few : offset capture k ≤ length capture → k ≤ most_records capture
    few inside = let least = offset_least k in omega arith

    module _ (inside : offset capture k < length capture) where
      pub passed_more : (begun_refused capture k).number ≡ 0 → Passed (suc k)
      unfolding first_below records_below ended nothing
      passed_more fine =
          record {
            none = rw (passed.none, begun k inside) (or_else_second nothing (begun_refused capture k) refl ∙ begun_plain k fine);
            all = rw (passed.all, lt-leb (length capture) (offset capture k) inside) (omega arith);
          }

      pub passed_stop : (begun_refused capture k).number ≢ 0 → begun_refused capture k ≡ records_refused capture
      unfolding records_refused nothing
      passed_stop some =
          let least = offset_least k in
          sym (begun k inside)
          ∙ sym (stopped (record_refused capture) k (most_records capture) (omega arith) (ap (λ (r : Refusal). r.number) passed.none) (rw (begun k inside) some))

    module _ (inside : offset capture k ≤ length capture) (end : length capture ≤ offset capture k) where
      pub passed_end : records_refused capture ≡ nothing
      unfolding records_refused
      passed_end = none_on k end passed.none (most_records capture) (few inside)

      pub passed_count : record_count capture ≡ k
      unfolding record_count
      passed_count = count_on k end (most_records capture) (few inside) ∙ passed.all

  -- ── a capture of which nothing is refused ──

  module _ (fine : (records_refused capture).number ≡ 0) (k : ℕ) (counted : k < record_count capture) where
    pub counted_inside : offset capture k < length capture
    unfolding record_count
    counted_inside = go (dec_lt (offset capture k) (length capture))
      where
        go : Dec (offset capture k < length capture) → offset capture k < length capture
        go (yes inside) = inside
        go (no other) = let most = count_most k (omega arith) (most_records capture) in absurd (omega arith)

    pub counted_whole : Whole k
    unfolding records_refused
    counted_whole =
        let least = offset_least k in
        let inside = counted_inside in
        whole k inside (rw (← begun k inside) (below_none (record_refused capture) (most_records capture) fine k (omega arith)))
