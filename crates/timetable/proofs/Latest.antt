-- When the line is free at the latest: with packets of a day, long before the moment at which lines can no more be put.
-- Assumes nothing.
use Prim.Native.Nat.{ℕ, ◌+◌, ◌*◌, ◌≤◌, ◌^◌, max}
use mathlib.Core.List.{List, [], ◌∷◌}
use native.Mathlib.Omega.{arith}
use lib.ListN.{length}
use Rattle.input.specs.Limits.{most_bytes, most_events}
use Rattle.input.specs.Events.{Events, length_word}
use Rattle.input.proofs.Charges.{rounded_most}
use Rattle.pcap.specs.Lists.{Stamped, sending}
use Rattle.pcap.specs.Printed.{record_of, arrived_at, free_after}
use Rattle.timetable.specs.Free.{free_through, most_free}

-- sending takes at most a second a byte
pub sending_most : (rate bytes : ℕ) → sending rate bytes ≤ bytes * 1000000
unfolding sending
sending_most rate bytes = rounded_most (bytes * 1000000) rate

-- one packet more
pub after_most :
    (stamps : List ℕ) (rate : ℕ) (events : Events) (free i bytes : ℕ) → Stamped stamps → length_word events i ≤ bytes
    → free_after stamps rate events free i ≤ max free (2 ^ 53) + bytes * 1000000
unfolding free_after arrived_at
after_most stamps rate events free i bytes early short =
    let stamp = early (record_of events i) in
    let time = sending_most rate (length_word events i) in
    omega arith

module _ (stamps : List ℕ) (rate : ℕ) (events : Events) (early : Stamped stamps) (short : (i : ℕ) → length_word events i ≤ most_bytes) where
  through_most : (order : List ℕ) (free : ℕ) → free_through stamps rate events free order ≤ max free (2 ^ 53) + length order * (most_bytes * 1000000)
  unfolding free_through
  through_most [] free = omega arith
  through_most (i ∷ later) free =
      let here = after_most stamps rate events free i most_bytes early (short i) in
      let rest = through_most later (free_after stamps rate events free i) in
      omega arith

  -- after all the packets that a run can have
  pub in_time : (order : List ℕ) → length order ≤ most_events → free_through stamps rate events 0 order ≤ most_free
  in_time order few = let last = through_most order 0 in omega arith
