-- `store_tags` meets its contract: three lists, one after the other.
-- Assumes nothing.
use mathlib.Core.Path.{◌∙◌}
use Rattle.live_rules.specs.State.{tags_stored}
use Rattle.storing.proofs.store_tags.Goals as goal

pub returns : goal.returns
unfolding tags_stored
returns c = record {
  state_after = rw (c.store_longs-3.ensures.state_after, c.store_longs-2.ensures.state_after, c.store_longs.ensures.state_after);
  state_unchanged = c.store_longs-3.ensures.state_unchanged ∙ c.store_longs-2.ensures.state_unchanged ∙ c.store_longs.ensures.state_unchanged;
}
