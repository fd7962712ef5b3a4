-- `store_zeros` meets its contract: three groups, one after the other.
-- Assumes nothing.
use mathlib.Core.Path.{sym, ap, ◌∙◌}
use Rattle.arrays.specs.declared.CountArrays.{CountArrays}
use Rattle.arrays.specs.Arrays.{no_counts}
use Rattle.live_rules.specs.State.{fresh_live, heads_stored, counts_stored}
use Rattle.live_box.proofs.making.store_zeros.Goals as goal

pub returns : goal.returns
unfolding fresh_live no_counts
returns c = record {
  state_after = λ table.
      let n = c.args.n in
      let zero = c.zeros.ensures in
      c.store_counts.ensures.state_after (fresh_live table)
      (record {
        bytes = sym (ap (λ (k : CountArrays). k.bytes) zero);
        held = sym (ap (λ (k : CountArrays). k.held) zero);
        since = sym (ap (λ (k : CountArrays). k.since) zero);
        parent_since = sym (ap (λ (k : CountArrays). k.parent_since) zero);
      })
      ∙ ap (counts_stored n (fresh_live table))
      (rw (← c.zeros-rows.ensures) (c.store_heads.ensures.state_after ∙ ap (heads_stored n _) c.store_tags.ensures.state_after));
  state_len_unchanged = c.store_counts.ensures.state_unchanged ∙ c.store_heads.ensures.state_unchanged ∙ c.store_tags.ensures.state_unchanged;
}
