-- Heads that name their packets: every row's head is a packet for a sending class in the row's own part of the tree.
use Rattle.std.specs.Prelude.{ℕ, pred, ◌<◌, ◌≡◌, ◌≢◌, true}
use Rattle.input.specs.Classes.{Tree, row_of}
use Rattle.input.specs.Events.{Events, class_word}
use Rattle.rules.specs.Box.{Rows, head}
use Rattle.rules.specs.Promise.{within}
use Rattle.laws.specs.Sound.{Sender}

-- a packet, as a head has it, for a sending class in row r's part of the tree; `class_of` has the class of each
pub record PacketOf (tree : Tree) (class_of : ℕ → ℕ) (r packet : ℕ) : Type 0 where
  pub sends : Sender tree (class_of packet)
  pub part : within tree r (class_of packet) ≡ true

-- every head is one
abbrev pub Named : Tree → (ℕ → ℕ) → Rows → Type 0
Named tree class_of a = (r : ℕ) → r < tree.rows → head a r ≢ 0 → PacketOf tree class_of r (head a r)

-- the class of each packet of a list, by its head, which is its place + 1
abbrev pub class_for : Tree → Events → ℕ → ℕ
class_for tree events packet = row_of tree (class_word events (pred packet))
