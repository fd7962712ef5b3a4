-- `store_heads` meets its contract: three lists, one after the other.
-- Assumes nothing.
use mathlib.Core.Path.{◌∙◌}
use Rattle.live_rules.specs.State.{heads_stored}
use Rattle.storing.proofs.store_heads.Goals as goal

pub returns : goal.returns
unfolding heads_stored
returns c = record {
  state_after = rw (c.store_words-3.ensures.state_after, c.store_words-2.ensures.state_after, c.store_words.ensures.state_after);
  state_unchanged = c.store_words-3.ensures.state_unchanged ∙ c.store_words-2.ensures.state_unchanged ∙ c.store_words.ensures.state_unchanged;
}
