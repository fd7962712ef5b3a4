-- When a live state is sound: condition by condition, each a test of the state alone.
use Rattle.std.specs.Prelude.{ℕ, zero, suc, ◌+◌, ◌*◌, Bool, true, false, cond, not, ◌&&◌, ◌||◌, List, [], ◌∷◌, leb, ltb, eqb, length, get_or}
use Rattle.input.specs.Limits.{most_rows, most_depth, most_identifier, least_bytes, most_bytes, whole, scale}
use Rattle.input.specs.Shares.{allowed, charge}
use Rattle.input.specs.Classes.{Tree, parent, depth, share, row_of, child, sends, children_share}
use Rattle.rules.specs.Box.{Packet, Rows, start, finish, virtual, head, head_length, head_class, has_head}
use Rattle.live_rules.specs.Limits.{most_held, most_accepted}
use Rattle.live_rules.specs.State.{Held, Live, queue, gone, events}

-- a test holds of every number below n, or of one of them
unfoldable pub all : ℕ → (ℕ → Bool) → Bool
all zero test = true
all (suc i) test = all i test && test i

unfoldable pub any : ℕ → (ℕ → Bool) → Bool
any zero test = false
any (suc i) test = any i test || test i

-- what p's children among the rows below n have in a list, added up
unfoldable pub children_sum : Tree → List ℕ → ℕ → ℕ → ℕ
children_sum tree xs p zero = 0
children_sum tree xs p (suc r) = children_sum tree xs p r + cond (child tree p r) (get_or xs r 0) 0

-- ── the tree: as an accepted table is read ──

-- an identifier that goes on the air as it is, and that no earlier row has
unfoldable pub named : Tree → ℕ → Bool
named tree r =
    let identifier = get_or tree.identifiers r 0 in
    ltb 0 identifier && (leb identifier most_identifier && eqb (row_of tree identifier) r)

-- the root, row 0
unfoldable pub root_sound : Tree → Bool
root_sound tree = eqb (parent tree 0) 0 && (eqb (depth tree 0) 0 && eqb (share tree 0) 0)

-- any other row: below a row in use, at the next depth, with an allowed share
unfoldable pub class_sound : Tree → ℕ → Bool
class_sound tree r =
    ltb (parent tree r) tree.rows
    && (eqb (depth tree r) (suc (depth tree (parent tree r))) && (leb (depth tree r) most_depth && allowed (share tree r)))

unfoldable pub tree_sound : Tree → Bool
tree_sound tree =
    root_sound tree
    && (all tree.rows (named tree)
    && (all tree.rows (λ r. eqb r 0 || class_sound tree r)
    && all tree.rows (λ p. leb (children_sum tree tree.shares p tree.rows) whole)))

-- ── the packets held ──

-- of a sending class, with the bytes of a packet
unfoldable pub packet_sound : Tree → Held → Bool
packet_sound tree packet =
    ltb packet.class tree.rows
    && (sends tree packet.class && (leb least_bytes packet.length && leb packet.length most_bytes))

unfoldable pub packets_sound : Tree → List Held → Bool
packets_sound tree [] = true
packets_sound tree (packet ∷ later) = packet_sound tree packet && packets_sound tree later

-- names rise, from `least` on and below `limit`
unfoldable pub in_order : ℕ → ℕ → List Held → Bool
in_order limit least [] = true
in_order limit least (packet ∷ later) =
    leb least packet.name && (ltb packet.name limit && in_order limit (suc packet.name) later)

-- ── the heads, and what is held ──

-- row r's head is this, with its length and class
unfoldable pub headed : Rows → ℕ → ℕ → ℕ → ℕ → Bool
headed rows r packet length class = eqb (head rows r) packet && (eqb (head_length rows r) length && eqb (head_class rows r) class)

-- class k's head is the first of its queue
unfoldable pub first_headed : Rows → ℕ → List Packet → Bool
first_headed rows k [] = headed rows k 0 0 0
first_headed rows k (packet ∷ later) = headed rows k (suc packet.place) packet.length k

-- a sending class holds its queue and has no virtual time
unfoldable pub sender_sound : Live → ℕ → Bool
sender_sound live k =
    eqb (get_or live.held k 0) (length (queue live.packets k))
    && (first_headed live.rows k (queue live.packets k) && eqb (virtual live.rows k) 0)

-- p has the head of its child t
unfoldable pub took_child : Tree → Rows → ℕ → ℕ → Bool
took_child tree rows p t =
    child tree p t && (has_head rows t && headed rows p (head rows t) (head_length rows t) (head_class rows t))

-- any other row holds what its children hold, and has the head of one of them where that is something, else none
unfoldable pub inner_sound : Live → ℕ → Bool
inner_sound live p =
    let n = live.tree.rows in
    eqb (get_or live.held p 0) (children_sum live.tree live.held p n)
    && cond (eqb (get_or live.held p 0) 0) (headed live.rows p 0 0 0) (any n (took_child live.tree live.rows p))

unfoldable pub holding_sound : Live → ℕ → Bool
holding_sound live r = cond (sends live.tree r) (sender_sound live r) (inner_sound live r)

-- ── the tags ──

-- the root has none; elsewhere the finish is the start with the head's charge, and without a head not before the start
unfoldable pub tags_sound : Tree → Rows → ℕ → Bool
tags_sound tree rows r =
    cond (eqb r 0) (eqb (start rows 0) 0 && eqb (finish rows 0) 0)
    (cond (has_head rows r) (eqb (finish rows r) (start rows r + charge (head_length rows r) (share tree r))) (leb (start rows r) (finish rows r)))

-- the most ticks that a tag at p's level can have: the largest charge for each packet that has left, and one for the packet that p has taken
unfoldable pub level_most : ℕ → Rows → ℕ → ℕ
level_most left rows p = scale * most_bytes * (left + cond (has_head rows p) 1 0)

-- row r has a head that its parent has not taken
unfoldable pub untaken : Tree → Rows → ℕ → Bool
untaken tree rows r = has_head rows r && not (eqb (head_class rows r) (head_class rows (parent tree r)))

-- a virtual time, the start of a row that waits, and the finish of one that is taken or idle are within that
unfoldable pub sizes_sound : Tree → ℕ → Rows → ℕ → Bool
sizes_sound tree left rows r =
    leb (virtual rows r) (level_most left rows r)
    && (eqb r 0 || leb (cond (untaken tree rows r) (start rows r) (finish rows r)) (level_most left rows (parent tree r)))

-- ── the counts ──

-- bytes are those of packets that have left; what a lag starts from is at most what is counted now
unfoldable pub counts_sound : Live → ℕ → Bool
counts_sound live r =
    leb (get_or live.bytes r 0) (most_bytes * gone live)
    && (leb (get_or live.since r 0) (get_or live.bytes r 0)
    && leb (get_or live.parent_since r 0) (get_or live.bytes (parent live.tree r) 0))

unfoldable pub row_sound : Live → ℕ → Bool
row_sound live r =
    holding_sound live r && (tags_sound live.tree live.rows r && (sizes_sound live.tree (gone live) live.rows r && counts_sound live r))

-- ── the whole ──

-- rows in use, packets held and packets accepted are as many as there can be
unfoldable pub few : Live → Bool
few live =
    leb 1 live.tree.rows
    && (leb live.tree.rows most_rows
    && (leb (length live.packets) most_held
    && (leb (length live.packets) live.accepted && leb live.accepted most_accepted)))

unfoldable pub sound : Live → Bool
sound live =
    few live
    && (tree_sound live.tree
    && (packets_sound live.tree live.packets
    && (in_order (events live) 0 live.packets && all live.tree.rows (row_sound live))))
