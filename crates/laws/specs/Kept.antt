-- A box that is well kept: what every state has that accepted events reach, said of the table and the state alone.
-- `big r` is a number that no packet in row r's part of the tree exceeds; the largest packet of that part is such a number.
use Rattle.std.specs.Prelude.{ℕ, suc, ◌+◌, ◌*◌, ◌-◌, ◌≤◌, ◌<◌, ◌≡◌, ◌≢◌, cond, List, [], ◌∷◌, eqb, length}
use Rattle.input.specs.declared.Event.{Event}
use Rattle.input.specs.declared.Event.TheVariants.{Arrival, Finish}
use Rattle.input.specs.Limits.{most_rows, ticks, whole}
use Rattle.input.specs.Classes.{Tree, share, row_of, child, children_share}
use Rattle.rules.specs.Box.{Packet, Rows, Box, start, finish, virtual, head, head_length, head_class, has_head, held_by, queue_of}
use Rattle.laws.specs.Sound.{Kid, Inner, Sender}
use Rattle.laws.specs.Moves.{Full, SameHead, Settled}
use Rattle.laws.specs.Rounding.{rounding}
use Rattle.laws.specs.Level.{Mode, idle, waits, taken, sum, Behind}

-- ── a level, as the level's laws see it ──

-- what p's children have of the share, by row; 0 for any other row
unfoldable pub weight : Tree → ℕ → ℕ → ℕ
weight tree p j = cond (child tree p j) (share tree j) 0

-- what is left of the whole beside p's children
unfoldable pub spare : Tree → ℕ → ℕ
spare tree p = whole - children_share tree p tree.rows

-- row j as p's level sees it, where p has taken its child t (0: none)
unfoldable pub mode : Tree → Rows → ℕ → ℕ → ℕ → Mode
mode tree a p t j =
    cond (child tree p j)
    (cond (eqb j t) (taken (finish a j)) (cond (has_head a j) (waits (start a j) (finish a j)) (idle (finish a j))))
    (idle 0)

-- t is the child that p has taken, 0 where p has no head
pub data Taken (tree : Tree) (a : Rows) (p : ℕ) : ℕ → Type 0 where
  none : {t : ℕ} → head a p ≡ 0 → t ≡ 0 → Taken tree a p t
  one : {t : ℕ} → head a p ≢ 0 → Kid tree p t → SameHead a p a t → Taken tree a p t

-- ahead: how far a child's next start can be past the virtual time, both times the share
unfoldable pub Ahead : Tree → (ℕ → ℕ) → Rows → ℕ → ℕ → ℕ → Type 0
Ahead tree big a p j t =
    share tree j * t ≤ share tree j * virtual a p + ticks * ((whole - share tree j) * big j) + share tree j * rounding (share tree j)

-- the two laws of a level, with its taken child t
pub record Balanced (tree : Tree) (big : ℕ → ℕ) (a : Rows) (p t : ℕ) : Type 0 where
  -- a child that waits is not too far ahead with its start, one that is idle or taken not with its finish
  pub ahead_waiting : (j : ℕ) → Kid tree p j → j ≢ t → head a j ≢ 0 → Ahead tree big a p j (start a j)
  pub ahead_idle : (j : ℕ) → Kid tree p j → j ≢ t → head a j ≡ 0 → Ahead tree big a p j (finish a j)
  pub ahead_taken : Kid tree p t → Ahead tree big a p t (finish a t)
  -- the taken child's start is behind the virtual time by its packet
  pub started : Kid tree p t → start a t + ticks * head_length a p ≤ virtual a p
  -- no child is too far behind
  pub behind : Behind tree.rows (weight tree p) (spare tree p) (mode tree a p t) (virtual a p) (big p)

-- every level is balanced, whichever child it has taken
abbrev pub Fair : Tree → (ℕ → ℕ) → Rows → Type 0
Fair tree big a = (p t : ℕ) → Inner tree p → Taken tree a p t → Balanced tree big a p t

-- ── the box ──

-- a queue in arrival order, of packets that arrived at a place from `least` on and before `now`, with 1 to `most` bytes
unfoldable pub InLine : ℕ → ℕ → ℕ → List Packet → Type 0
InLine now most least [] = Unit
InLine now most least (packet ∷ later) =
    (least ≤ packet.place) × (packet.place < now) × (0 < packet.length) × (packet.length ≤ most)
    × InLine now most (suc packet.place) later

-- a sending class's head is the first packet of its queue
unfoldable pub HeadOf : Rows → ℕ → List Packet → Type 0
HeadOf a k [] = head a k ≡ 0
HeadOf a k (packet ∷ later) = (head a k ≡ suc packet.place) × (head_length a k ≡ packet.length) × (head_class a k ≡ k)

-- what p's children hold
unfoldable pub held_below : Tree → Box → ℕ → ℕ
held_below tree box p = sum tree.rows (λ j. cond (child tree p j) (held_by box j) 0)

-- `now` is the place of the next event
pub record Kept (tree : Tree) (big : ℕ → ℕ) (now : ℕ) (box : Box) : Type 0 where
  pub rows_full : Full box.rows
  pub bytes_full : length box.bytes ≡ most_rows
  pub held_full : length box.held ≡ most_rows
  pub since_full : length box.since ≡ most_rows
  pub parent_since_full : length box.parent_since ≡ most_rows
  pub queues_full : length box.queues ≡ most_rows
  pub settled : Settled tree box.rows
  pub heads_small : (r : ℕ) → r < tree.rows → head_length box.rows r ≤ big r
  pub queues_kept : (k : ℕ) → Sender tree k → InLine now (big k) 0 (queue_of box k)
  pub heads_kept : (k : ℕ) → Sender tree k → HeadOf box.rows k (queue_of box k)
  pub held_sender : (k : ℕ) → Sender tree k → held_by box k ≡ length (queue_of box k)
  pub held_inner : (p : ℕ) → Inner tree p → held_by box p ≡ held_below tree box p
  -- what the rules never write
  pub sender_virtual : (k : ℕ) → Sender tree k → virtual box.rows k ≡ 0
  pub root_start : start box.rows 0 ≡ 0
  pub root_finish : finish box.rows 0 ≡ 0

-- an event's packet is no larger than its class's largest
unfoldable pub Covered : Tree → (ℕ → ℕ) → Event → Type 0
Covered tree big (Arrival class length) = length ≤ big (row_of tree class)
Covered tree big Finish = Unit
