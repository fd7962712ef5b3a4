-- The state of the box. Every list but the order has an entry for each row that there can be.
use Rattle.std.specs.Prelude.{ℕ, Bool, not, eqb, get_or, replicate}
use mathlib.Core.List.{List, [], tail}
use Rattle.input.specs.Limits.{most_rows}
use Rattle.input.specs.Classes.{zeros}

-- a packet: the place of the event in which it arrived, and its bytes
pub record Packet : Type 0 where
  pub place : ℕ
  pub length : ℕ

-- what choosing goes by. A head is its packet's place + 1, and 0 where a row has none; with it go the packet's length and
-- the row of its class, both 0 where there is no head
pub record Rows : Type 0 where
  pub starts : List ℕ
  pub finishes : List ℕ
  pub virtuals : List ℕ
  pub heads : List ℕ
  pub head_lengths : List ℕ
  pub head_classes : List ℕ

-- the whole box: for each row the bytes that it finished, the packets that it holds, and its own and its parent's bytes
-- finished when its backlog began; for each sending class the packets it holds, first in first; the order so far
pub record Box : Type 0 where
  pub rows : Rows
  pub bytes : List ℕ
  pub held : List ℕ
  pub since : List ℕ
  pub parent_since : List ℕ
  pub queues : List (List Packet)
  pub order : List ℕ

-- before the first event: everything is zero, no row has a head, nothing is held
unfoldable pub fresh : Box
fresh =
    record {
      rows = record { starts = zeros; finishes = zeros; virtuals = zeros; heads = zeros; head_lengths = zeros; head_classes = zeros };
      bytes = zeros;
      held = zeros;
      since = zeros;
      parent_since = zeros;
      queues = replicate most_rows [];
      order = [];
    }

abbrev pub start : Rows → ℕ → ℕ
start rows r = get_or rows.starts r 0

abbrev pub finish : Rows → ℕ → ℕ
finish rows r = get_or rows.finishes r 0

abbrev pub virtual : Rows → ℕ → ℕ
virtual rows r = get_or rows.virtuals r 0

abbrev pub head : Rows → ℕ → ℕ
head rows r = get_or rows.heads r 0

abbrev pub head_length : Rows → ℕ → ℕ
head_length rows r = get_or rows.head_lengths r 0

abbrev pub head_class : Rows → ℕ → ℕ
head_class rows r = get_or rows.head_classes r 0

unfoldable pub has_head : Rows → ℕ → Bool
has_head rows r = not (eqb (head rows r) 0)

abbrev pub bytes_of : Box → ℕ → ℕ
bytes_of box r = get_or box.bytes r 0

abbrev pub held_by : Box → ℕ → ℕ
held_by box r = get_or box.held r 0

abbrev pub queue_of : Box → ℕ → List Packet
queue_of box r = get_or box.queues r []

-- the packet on the line: its class, and what that class holds behind it
abbrev pub line_class : Box → ℕ
line_class box = head_class box.rows 0

abbrev pub left : Box → List Packet
left box = tail (queue_of box (line_class box))
