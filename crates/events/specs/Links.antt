-- Queues as links: for each packet a word, the next packet of its class, and for each class a word, the last packet of its queue.
-- A word is a packet's place + 1, and 0 where there is none.
use Rattle.std.specs.Prelude.{ℕ, suc, ◌≤◌, ◌<◌, ◌≡◌, List, [], ◌∷◌, length, get_or}
use Rattle.input.specs.Limits.{most_rows}
use Rattle.input.specs.Classes.{Tree, row_of}
use Rattle.input.specs.Events.{Events, count, class_word, length_word}
use Rattle.rules.specs.Box.{Packet, Box, queue_of}
use Rattle.laws.specs.Sound.{Sender}

-- ── words ──

-- the first and the last packet of a queue
unfoldable pub first_word : List Packet → ℕ
first_word [] = 0
first_word (packet ∷ later) = suc packet.place

unfoldable pub last_word : List Packet → ℕ
last_word [] = 0
last_word (packet ∷ []) = suc packet.place
last_word (packet ∷ next ∷ later) = last_word (next ∷ later)

-- ── chains ──

-- each packet's link is the next one, and its event has its class and its length
unfoldable pub Chain : Tree → Events → List ℕ → ℕ → List Packet → Type 0
Chain tree events links k [] = Unit
Chain tree events links k (packet ∷ later) =
    (get_or links packet.place 0 ≡ first_word later)
    × (row_of tree (class_word events packet.place) ≡ k)
    × (length_word events packet.place ≡ packet.length)
    × Chain tree events links k later

-- every sending class's queue is a chain, before the event at place i; the packets to come have no link yet
pub record Linked (tree : Tree) (events : Events) (i : ℕ) (box : Box) (lasts links : List ℕ) : Type 0 where
  pub lasts_full : length lasts ≡ most_rows
  pub chains : (k : ℕ) → Sender tree k → Chain tree events links k (queue_of box k)
  pub lasts_are : (k : ℕ) → Sender tree k → get_or lasts k 0 ≡ last_word (queue_of box k)
  pub unlinked : (j : ℕ) → i ≤ j → j < count events → get_or links j 0 ≡ 0
