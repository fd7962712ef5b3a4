-- `store_counts` meets its contract: four lists, one after the other.
-- Assumes nothing.
use mathlib.Core.Path.{◌∙◌}
use Rattle.live_rules.specs.State.{counts_stored}
use Rattle.storing.proofs.store_counts.Goals as goal

pub returns : goal.returns
unfolding counts_stored
returns c = record {
  state_after = λ live same.
      rw (
        same.bytes,
        same.held,
        same.since,
        same.parent_since,
        c.store_longs-3.ensures.state_after,
        c.store_longs-2.ensures.state_after,
        c.store_words.ensures.state_after,
        c.store_longs.ensures.state_after,
      );
  state_unchanged = c.store_longs-3.ensures.state_unchanged ∙ c.store_longs-2.ensures.state_unchanged ∙ c.store_words.ensures.state_unchanged ∙ c.store_longs.ensures.state_unchanged;
}
