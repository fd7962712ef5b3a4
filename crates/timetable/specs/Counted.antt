-- The records of a list's places, kept as words.
use Rattle.std.specs.Prelude.{ℕ, ◌≤◌, ◌<◌, ◌≡◌, List, length, get_or}
use Rattle.input.specs.Lent.{events_of}
use Rattle.pcap.specs.Printed.{record_of}

-- for each place of the list, and for the one after its last, the record of a packet that arrives there; lengths have no part in it
abbrev pub Recorded : List ℕ → List ℕ → Type 0
Recorded classes records = (lengths : List ℕ) (i : ℕ) → i ≤ length classes → get_or records i 0 ≡ record_of (events_of classes lengths) i

-- what counting them leaves of the words, before and after: they stand over the first ones, and the others stay
pub record Counts (classes before now : List ℕ) : Type 0 where
  pub room : length now ≡ length before
  pub recorded : Recorded classes now
  pub rest : (i : ℕ) → length classes < i → get_or now i 0 ≡ get_or before i 0
