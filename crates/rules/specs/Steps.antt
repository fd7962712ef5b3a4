-- The steps of the box: choosing at a row and up the tree, an arrival, the line's finish; and the box after some events.
use Rattle.std.specs.Prelude.{ℕ, zero, suc, pred, ◌+◌, ◌*◌, max, Bool, cond, not, ◌&&◌, ◌||◌, List, [], ◌∷◌, ◌++◌, leb, ltb, eqb, get_or, set}
use Rattle.input.specs.declared.Event.{Event}
use Rattle.input.specs.declared.Event.TheVariants.{Arrival, Finish}
use Rattle.rules.specs.declared.Why.{Why}
use Rattle.rules.specs.declared.Why.TheVariants.{Finished, Arrived}
use Rattle.input.specs.Limits.{ticks}
use Rattle.input.specs.Shares.{charge}
use Rattle.input.specs.Classes.{Tree, parent, depth, share, child, row_of}
use Rattle.input.specs.Events.{Events, event}
use Rattle.rules.specs.Box.{Packet, Rows, Box, fresh, start, finish, virtual, head, head_length, head_class, has_head}
use Rattle.rules.specs.Box.{bytes_of, held_by, queue_of, line_class, left}

-- ── a row's head and tags ──

-- row r has this head, of this length and class
unfoldable pub with_head : ℕ → ℕ → ℕ → ℕ → Rows → Rows
with_head r packet length class rows =
    record {
      starts = rows.starts;
      finishes = rows.finishes;
      virtuals = rows.virtuals;
      heads = set rows.heads r packet;
      head_lengths = set rows.head_lengths r length;
      head_classes = set rows.head_classes r class;
    }

unfoldable pub with_virtual : ℕ → ℕ → Rows → Rows
with_virtual r v rows =
    record {
      starts = rows.starts;
      finishes = rows.finishes;
      virtuals = set rows.virtuals r v;
      heads = rows.heads;
      head_lengths = rows.head_lengths;
      head_classes = rows.head_classes;
    }

-- a packet of this length is charged to row r from the start s on
unfoldable pub charged : Tree → ℕ → ℕ → ℕ → Rows → Rows
charged tree r s length rows =
    record {
      starts = set rows.starts r s;
      finishes = set rows.finishes r (s + charge length (share tree r));
      virtuals = rows.virtuals;
      heads = rows.heads;
      head_lengths = rows.head_lengths;
      head_classes = rows.head_classes;
    }

-- where a row's next packet starts: at the row's finish if its last packet has just finished, else not before its parent's virtual time
unfoldable pub next_start : Tree → Why → ℕ → Rows → ℕ
next_start tree Finished r rows = finish rows r
next_start tree Arrived r rows = max (finish rows r) (virtual rows (parent tree r))

-- a row other than the root gets a head and is charged for it
unfoldable pub new_head : Tree → Why → ℕ → ℕ → ℕ → ℕ → Rows → Rows
new_head tree why r packet length class rows =
    charged tree r (next_start tree why r rows) length (with_head r packet length class rows)

-- ── choosing ──

-- row a goes before row b: its key is less, or as large and its place earlier
unfoldable pub sooner : (ℕ → ℕ) → (ℕ → ℕ) → ℕ → ℕ → Bool
sooner key place a b = ltb (key a) (key b) || (eqb (key a) (key b) && ltb (place a) (place b))

-- of two rows, the second if it passes the test and goes before the first; the first may be 0, which is no row
unfoldable pub lesser : (ℕ → Bool) → (ℕ → ℕ) → (ℕ → ℕ) → ℕ → ℕ → ℕ
lesser test key place best r = cond (test r && (eqb best 0 || sooner key place r best)) r best

-- among the rows below n that pass a test, the one with the least key, of equal keys that with the earliest place; 0 where none passes
unfoldable pub least : (ℕ → Bool) → (ℕ → ℕ) → (ℕ → ℕ) → ℕ → ℕ
least test key place zero = 0
least test key place (suc r) = lesser test key place (least test key place r) r

-- r is a child of p with a head
unfoldable pub waits : Tree → Rows → ℕ → ℕ → Bool
waits tree rows p r = child tree p r && has_head rows r

-- r waits and its start is at most v
unfoldable pub eligible : Tree → Rows → ℕ → ℕ → ℕ → Bool
eligible tree rows p v r = waits tree rows p r && leb (start rows r) v

-- p's virtual time, raised to the least start among its waiting children if it is lower; as it was where none waits
unfoldable pub raised : Tree → Rows → ℕ → ℕ
raised tree rows p =
    let first = least (waits tree rows p) (start rows) (head rows) tree.rows in
    cond (eqb first 0) (virtual rows p) (max (virtual rows p) (start rows first))

-- the child that p takes: of the eligible ones that with the least finish, of equal finishes that whose head packet arrived first; a head is
-- its packet's place + 1, so heads are in the order of their places. 0 where no child has a head
unfoldable pub pick : Tree → Rows → ℕ → ℕ
pick tree rows p = least (eligible tree rows p (raised tree rows p)) (finish rows) (head rows) tree.rows

-- p takes its child k: k's head is p's too, and p's virtual time passes over it. The root is charged nothing: its head is on the line
unfoldable pub takes : Tree → Why → ℕ → ℕ → Rows → Rows
takes tree why p k rows =
    let length = head_length rows k in
    let passed = with_virtual p (raised tree rows p + ticks * length) rows in
    cond (eqb p 0) (with_head p (head rows k) length (head_class rows k) passed)
    (new_head tree why p (head rows k) length (head_class rows k) passed)

-- row p chooses; where no child has a head it has none, and its tags stay
unfoldable pub chooses : Tree → Why → ℕ → Rows → Rows
chooses tree why p rows =
    let k = pick tree rows p in
    cond (eqb k 0) (with_head p 0 0 0 rows) (takes tree why p k rows)

-- from a row at this depth upwards: the parent chooses if it has no head, then the parent's parent likewise, up to the root
unfoldable pub up : ℕ → Tree → Why → ℕ → Rows → Rows
up zero tree why r rows = rows
up (suc d) tree why r rows =
    cond (has_head rows (parent tree r)) rows (up d tree why (parent tree r) (chooses tree why (parent tree r) rows))

-- ── the path from a row up to the root ──

-- a list with each entry on the path from r, which is at this depth, changed by f, which sees the row and its entry
unfoldable pub on_path : ℕ → Tree → (ℕ → ℕ → ℕ) → ℕ → List ℕ → List ℕ
on_path zero tree f r xs = set xs r (f r (get_or xs r 0))
on_path (suc d) tree f r xs = on_path d tree f (parent tree r) (set xs r (f r (get_or xs r 0)))

unfoldable pub along : Tree → (ℕ → ℕ → ℕ) → ℕ → List ℕ → List ℕ
along tree f r xs = on_path (depth tree r) tree f r xs

-- ── what an event does to the rows ──

-- a packet arrives for class k: nothing changes if k has a head; else it is k's head, and then whoever above has none chooses
unfoldable pub arrives : Tree → ℕ → ℕ → ℕ → Rows → Rows
arrives tree place k length rows =
    cond (has_head rows k) rows (up (depth tree k) tree Arrived k (new_head tree Arrived k (suc place) length k rows))

-- the line's packet, of class k, leaves every row on its path: those have no head
unfoldable pub leaves : Tree → ℕ → Rows → Rows
leaves tree k rows =
    record {
      starts = rows.starts;
      finishes = rows.finishes;
      virtuals = rows.virtuals;
      heads = along tree (λ r n. 0) k rows.heads;
      head_lengths = along tree (λ r n. 0) k rows.head_lengths;
      head_classes = along tree (λ r n. 0) k rows.head_classes;
    }

-- the next packet of class k, if it has one, is its head
unfoldable pub renews : Tree → ℕ → List Packet → Rows → Rows
renews tree k [] rows = rows
renews tree k (packet ∷ later) rows = new_head tree Finished k (suc packet.place) packet.length k rows

-- k's packet has left; the next of its packets is k's head, and only then k's parent chooses, and all above it, which have none
unfoldable pub goes_on : Tree → ℕ → List Packet → Rows → Rows
goes_on tree k later rows = up (depth tree k) tree Finished k (renews tree k later rows)

-- ── what an event does to the box ──

-- what went on the line: the root's head, if it had none before
unfoldable pub sent : Rows → Rows → List ℕ
sent before now = cond (not (has_head before 0) && has_head now 0) (pred (head now 0) ∷ []) []

-- the packet named place arrives for class k. Whatever above it held nothing begins a backlog
unfoldable pub arrival : Tree → ℕ → ℕ → ℕ → Box → Box
arrival tree place k length box =
    let now = arrives tree place k length box.rows in
    record {
      rows = now;
      bytes = box.bytes;
      held = along tree (λ r n. suc n) k box.held;
      since = along tree (λ r n. cond (eqb (held_by box r) 0) (bytes_of box r) n) k box.since;
      parent_since = along tree (λ r n. cond (eqb (held_by box r) 0) (bytes_of box (parent tree r)) n) k box.parent_since;
      queues = set box.queues k (queue_of box k ++ record { place = place; length = length } ∷ []);
      order = box.order ++ sent box.rows now;
    }

-- the line has finished its packet
unfoldable pub departure : Tree → Box → Box
departure tree box =
    let k = line_class box in
    let length = head_length box.rows 0 in
    let idle = leaves tree k box.rows in
    let now = goes_on tree k (left box) idle in
    record {
      rows = now;
      bytes = along tree (λ r n. n + length) k box.bytes;
      held = along tree (λ r n. pred n) k box.held;
      since = box.since;
      parent_since = box.parent_since;
      queues = set box.queues k (left box);
      order = box.order ++ sent idle now;
    }

-- the event at a place
unfoldable pub step : Tree → ℕ → Event → Box → Box
step tree place (Arrival class length) box = arrival tree place (row_of tree class) length box
step tree place Finish box = departure tree box

-- the box after the first n events
unfoldable pub after : Tree → Events → ℕ → Box
after tree events zero = fresh
after tree events (suc n) = step tree n (event events n) (after tree events n)
