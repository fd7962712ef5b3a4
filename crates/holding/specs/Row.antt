-- The tests of one row, over its own numbers and its parent's.
use Rattle.std.specs.Prelude.{ℕ, ◌+◌, ◌*◌, Bool, true, cond, not, ◌&&◌, ◌||◌, ltb, leb, eqb}
use Rattle.input.specs.Limits.{most_bytes, scale}
use Rattle.input.specs.Shares.{charge}

-- ── the head ──

-- a head is this packet, with its length and class
unfoldable pub same_head : ℕ → ℕ → ℕ → ℕ → ℕ → ℕ → Bool
same_head head size class packet packet_size packet_class = eqb head packet && (eqb size packet_size && eqb class packet_class)

-- row t has a head, and its parent has the same
unfoldable pub passed_on : ℕ → ℕ → ℕ → ℕ → ℕ → ℕ → ℕ → Bool
passed_on t head size class above above_size above_class =
    ltb 0 t && (not (eqb head 0) && same_head above above_size above_class head size class)

-- ── what a row holds ──

-- a sending class r holds as many packets as its queue, its head is the queue's first, and it has no virtual time
unfoldable pub sender_test : Bool → ℕ → ℕ → ℕ → ℕ → ℕ → ℕ → ℕ → ℕ → ℕ → Bool
sender_test sender r held count time head size class first first_size =
    cond sender (eqb held count && (same_head head size class first first_size (cond (eqb first 0) 0 r) && eqb time 0)) true

-- any other row holds what its children hold, and its head is one of theirs where that is something, else none
unfoldable pub inner_test : Bool → ℕ → ℕ → Bool → ℕ → ℕ → ℕ → Bool
inner_test sender held sum mark head size class =
    cond sender true (eqb held sum && cond (eqb held 0) (same_head head size class 0 0 0) mark)

-- ── tags, sizes, counts ──

unfoldable pub tags_test : ℕ → ℕ → ℕ → ℕ → ℕ → ℕ → Bool
tags_test r start finish head size share =
    cond (eqb r 0) (eqb start 0 && eqb finish 0)
    (cond (not (eqb head 0)) (eqb finish (start + charge size share)) (leb start finish))

-- the most ticks that a tag can have at the level of a row with this head
unfoldable pub most_at : ℕ → ℕ → ℕ
most_at left head = scale * most_bytes * (left + cond (not (eqb head 0)) 1 0)

-- the tag that counts at its level: the start of a row that waits, the finish of one that is taken or idle
unfoldable pub tag_at : ℕ → ℕ → ℕ → ℕ → ℕ → ℕ
tag_at start finish head class above_class = cond (not (eqb head 0) && not (eqb class above_class)) start finish

unfoldable pub sizes_test : ℕ → ℕ → ℕ → ℕ → ℕ → ℕ → ℕ → ℕ → ℕ → Bool
sizes_test left r time start finish head class above above_class =
    leb time (most_at left head) && (eqb r 0 || leb (tag_at start finish head class above_class) (most_at left above))

unfoldable pub counts_test : ℕ → ℕ → ℕ → ℕ → ℕ → Bool
counts_test left bytes since above_since above_bytes = leb bytes (most_bytes * left) && (leb since bytes && leb above_since above_bytes)
