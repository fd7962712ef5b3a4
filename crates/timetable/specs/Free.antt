-- When the line is free again after some packets, one sent after the other.
use Rattle.std.specs.Prelude.{ℕ, ◌^◌, List, [], ◌∷◌}
use Rattle.input.specs.Events.{Events}
use Rattle.pcap.specs.Printed.{free_after}

unfoldable pub free_through : List ℕ → ℕ → Events → ℕ → List ℕ → ℕ
free_through stamps rate events free [] = free
free_through stamps rate events free (i ∷ later) = free_through stamps rate events (free_after stamps rate events free i) later

-- packets whose lines are put at a time, at most
abbrev pub most_packets : ℕ
most_packets = 512

-- the latest moment from which lines can be put: 64 bits hold it with all that is added
abbrev pub most_free : ℕ
most_free = 2 ^ 62
