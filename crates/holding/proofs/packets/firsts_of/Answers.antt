-- `holding::packets::firsts_of` meets its contract: the packets passed are told.
-- Assumes nothing.
use Rattle.holding.proofs.Queues.{tally_none, tally_more}
use Rattle.holding.proofs.packets.firsts_of.Goals as goal

pub loop-i-init : goal.loop-i-init
loop-i-init c = tally_none c.args.words.now

pub loop-i-preserved : goal.loop-i-preserved
loop-i-preserved c =
    let at = c.loop-i in
    let row = c.row-k in
    tally_more c.args.words.now at.i at.counts at.firsts at.sizes at.invariant row.result c.first.result c.first-in-loop-i.result
    row.ensures.1
    row.ensures.0
    c.first.ensures
    c.first-in-loop-i.ensures
