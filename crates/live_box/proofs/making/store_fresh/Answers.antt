-- `store_fresh` meets its contract: the header, the tree, and zeros.
-- Assumes nothing.
use Rattle.live_box.proofs.FreshOutcome.{all_written}
use Rattle.live_box.proofs.making.store_fresh.Goals as goal

pub returns : goal.returns
returns c =
    λ table names tree.
    let s = c.args in
    rw (c.store_zeros.ensures.state_after table, c.store_tree.ensures.state_after, c.store_header.ensures.state_after)
    (all_written table s.identifiers.now s.tree.now names tree s.state.now)
