-- `finishes_next` meets its contract: each answer goes by the tests on its way.
-- Assumes nothing.
use borrow.Author.Tests.{eq-eqb, ne_eqb}
use Rattle.listing.proofs.next.finishes_next.Goals as goal

pub returns-then-idle : goal.returns-then-idle
returns-then-idle c = rw c.if-idle.true

pub returns-then-arrived-packets : goal.returns-then-arrived-packets
returns-then-arrived-packets c = rw (c.if-idle.false, eq-eqb _ _ c.if-arrived-packets.true)

pub returns : goal.returns
returns c = rw (c.if-idle.false, ne_eqb _ _ c.if-arrived-packets.false)
