-- A class's next packet as two numbers.
use Rattle.std.specs.Prelude.{ℕ, zero, suc, List, [], ◌∷◌}
use Rattle.rules.specs.Box.{Packet}

-- the packet with this place + 1 and this length alone; nothing for 0
unfoldable pub next_of : ℕ → ℕ → List Packet
next_of zero length = []
next_of (suc place) length = record { place = place; length = length } ∷ []
