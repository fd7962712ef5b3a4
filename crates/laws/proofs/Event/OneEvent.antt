-- What an event does to a well-kept box: at each level, and to what is counted for each row.
-- Assumes nothing.
use Prim.Native.Nat.{ℕ, suc, ◌+◌, ◌≤◌, ◌<◌}
use mathlib.Core.Path.{◌≡◌, refl}
use mathlib.Core.Logic.{◌≢◌, ◌⊎◌}
use mathlib.Core.Bool.{Bool, true, false, cond}
use native.Mathlib.Omega.{arith}
use lib.Dec.{eqb}
use lib.ListN.{get_or}
use borrow.Author.Tests.{eq-eqb, ne_eqb}
use Rattle.input.specs.Classes.{Tree, parent}
use Rattle.rules.specs.Box.{Box, head, head_length, bytes_of, held_by, queue_of}
use Rattle.rules.specs.Steps.{arrival, departure}
use Rattle.rules.specs.Promise.{within}
use Rattle.laws.specs.Sound.{Sound, Inner, Sender}
use Rattle.laws.specs.Moves.{Still, ArrivalAt, DepartureAt}
use Rattle.laws.specs.Kept.{InLine, Kept}
use Rattle.rules.specs.Box.{line_class, left}
use Rattle.laws.proofs.Path.Tests.{cond_most}
use Rattle.laws.proofs.Tree.Paths.{along_at}
use Rattle.laws.proofs.Path.ArrivalPath.{arrives_at}
use Rattle.laws.proofs.Path.DeparturePath.{NextFits, path_heads, departs_on, departs_off}
use Rattle.laws.proofs.Event.Queues.{in_line_tail, in_line_next}
use Rattle.laws.proofs.Event.Holding.{OneMore}

-- ── the mark of a backlog's beginning ──

-- on the path of a packet that arrives it is set where nothing was held
abbrev marked : Bool → ℕ → ℕ → ℕ → ℕ
marked on held now mark = cond on (cond (eqb held 0) now mark) mark

pub mark_stays : (on : Bool) (held now mark : ℕ) → 0 < held → marked on held now mark ≡ mark
mark_stays true held now mark some = rw (ne_eqb held 0 (λ none. omega arith))
mark_stays false held now mark some = refl

pub mark_set : (on : Bool) (held now mark : ℕ) → held ≡ 0 → 0 < cond on (suc held) held → marked on held now mark ≡ now
mark_set true held now mark none later = rw (eq-eqb held 0 none)
mark_set false held now mark none later = absurd (omega arith)

pub mark_most : (on : Bool) (held now mark : ℕ) → mark ≤ now → marked on held now mark ≤ now
mark_most on held now mark before = cond_most on _ mark now (cond_most (eqb held 0) now mark now (omega arith) before) before

module _ (tree : Tree) (sound : Sound tree) (big : ℕ → ℕ) (now : ℕ) (box : Box) (kept : Kept tree big now box) where
  -- ── an arrival ──

  module _ (k length : ℕ) (sender : Sender tree k) where
    pub arrival_at :
        0 < length → (p : ℕ) → Inner tree p
        → Still tree box.rows (arrival tree now k length box).rows p
        ⊎ ((c : ℕ) × ArrivalAt tree box.rows (arrival tree now k length box).rows k p c)
    unfolding arrival
    arrival_at some = arrives_at tree sound box.rows kept.rows_full kept.settled now k length sender some

    pub arrival_held : OneMore tree k box (arrival tree now k length box)
    unfolding arrival
    arrival_held r inside = along_at tree sound (λ j n. suc n) k r box.held sender.inside inside kept.held_full

    -- no bytes are finished
    pub arrival_bytes : (r : ℕ) → bytes_of (arrival tree now k length box) r ≡ bytes_of box r
    unfolding arrival
    arrival_bytes r = refl

    -- the marks: a row's own bytes and its parent's
    pub arrival_since :
        (r : ℕ) → r < tree.rows
        → get_or (arrival tree now k length box).since r 0
        ≡ marked (within tree r k) (held_by box r) (bytes_of box r) (get_or box.since r 0)
    unfolding arrival
    arrival_since r inside =
        along_at tree sound (λ j n. cond (eqb (held_by box j) 0) (bytes_of box j) n) k r box.since sender.inside inside kept.since_full

    pub arrival_parent_since :
        (r : ℕ) → r < tree.rows
        → get_or (arrival tree now k length box).parent_since r 0
        ≡ marked (within tree r k) (held_by box r) (bytes_of box (parent tree r)) (get_or box.parent_since r 0)
    unfolding arrival
    arrival_parent_since r inside =
        along_at tree sound (λ j n. cond (eqb (held_by box j) 0) (bytes_of box (parent tree j)) n) k r box.parent_since sender.inside inside
        kept.parent_since_full

  -- ── a finish ──

  module _ (busy : head box.rows 0 ≢ 0) where
    pub line_sender : Sender tree (line_class box)
    line_sender = kept.settled.of_sender 0 sound.some_rows busy

    pub left_line : InLine now (big (line_class box)) 0 (left box)
    left_line = in_line_tail now (big (line_class box)) 0 (queue_of box (line_class box)) (kept.queues_kept (line_class box) line_sender)

    pub left_next : NextFits (left box)
    left_next = in_line_next now (big (line_class box)) 0 (left box) left_line

    -- the levels on the line's path, and the others
    pub departure_on :
        (p : ℕ) → Inner tree p → within tree p (line_class box) ≡ true
        → (c : ℕ) × DepartureAt tree box.rows (departure tree box).rows (line_class box) p c
    unfolding departure
    departure_on = departs_on tree sound box.rows kept.rows_full kept.settled busy (left box) left_next

    pub departure_off : (p : ℕ) → Inner tree p → within tree p (line_class box) ≡ false → Still tree box.rows (departure tree box).rows p
    unfolding departure
    departure_off = departs_off tree sound box.rows kept.rows_full kept.settled busy (left box) left_next

    -- a finish adds the packet's bytes to each row on its path, and to no other
    pub departure_bytes :
        (r : ℕ) → r < tree.rows
        → bytes_of (departure tree box) r ≡ cond (within tree r (line_class box)) (bytes_of box r + head_length box.rows 0) (bytes_of box r)
    unfolding departure
    departure_bytes r inside =
        along_at tree sound (λ j n. n + head_length box.rows 0) (line_class box) r box.bytes line_sender.inside inside kept.bytes_full

    -- it is the head of each row on its path
    pub line_length : (r : ℕ) → r < tree.rows → within tree r (line_class box) ≡ true → head_length box.rows r ≡ head_length box.rows 0
    line_length r inside on = (path_heads tree sound box.rows kept.rows_full kept.settled busy r inside on).length_same

    pub bytes_on :
        (r : ℕ) → r < tree.rows → within tree r (line_class box) ≡ true → bytes_of (departure tree box) r ≡ bytes_of box r + head_length box.rows r
    bytes_on r inside on = rw (line_length r inside on) (rw on at (departure_bytes r inside))

    pub bytes_off : (r : ℕ) → r < tree.rows → within tree r (line_class box) ≡ false → bytes_of (departure tree box) r ≡ bytes_of box r
    bytes_off r inside off = rw off at (departure_bytes r inside)
