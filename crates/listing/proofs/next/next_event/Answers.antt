-- `next_event` meets its contract: the finish of what is on the line, or the next packet's arrival.
-- Assumes nothing.
use Rattle.listing.proofs.Coming.{finish_next, arrival_next}
use Rattle.listing.proofs.next.next_event.Goals as goal

pub returns-then-finishes_next : goal.returns-then-finishes_next
returns-then-finishes_next c = λ now arrived_is due_is idle_is.
    let s = c.args in
    finish_next s.stamps.now s.classes.now s.lengths.now _ _ _ _ _ _ c.wide-k.ensures.0 c.stamp_of-stamp.ensures
    c.finishes_next.ensures now arrived_is due_is idle_is c.if-finishes_next.true

pub returns : goal.returns
returns c = λ now arrived_is due_is idle_is.
    let s = c.args in
    arrival_next s.stamps.now s.classes.now s.lengths.now _ _ _ _ _ _ c.wide-k.ensures.0 c.stamp_of-stamp.ensures
    c.finishes_next.ensures now arrived_is due_is idle_is _ _ c.word-class.ensures (rw (← c.word.ensures) c.packet_length.ensures) c.if-finishes_next.false
