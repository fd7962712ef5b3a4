-- `holding::packets::firsts_of` meets its contract: the packets passed are told.
-- Assumes nothing.
use Rattle.holding.proofs.Queues.{Tally}
use Rattle.holding.proofs.packets.firsts_of.Given as goal

abbrev pub invariant-loop-i : goal.invariant-loop-i
invariant-loop-i l = Tally l.words l.i l.counts l.firsts l.sizes
