-- `taking::store_rows` meets its contract: what each call stores, one over the other.
-- Assumes nothing.
use Prim.Native.Nat.{ℕ}
use mathlib.Core.Path.{ap, ap₂, sym, ◌∙◌}
use mathlib.Core.List.{[], ◌∷◌}
use borrow.Author.Rules.{rules}
use lib.Seq.{sets}
use Rattle.live_rules.specs.Layout.{accepted_word}
use Rattle.live_rules.specs.State.{tags_stored, heads_stored, counts_stored}
use Rattle.taking.specs.Taken.{rows_kept}
use Rattle.taking.proofs.store_rows.Goals as goal

pub returns : goal.returns
unfolding rows_kept
returns c = record {
  words_after = λ live keeps.
      c.store_counts.ensures.state_after live keeps.counts_are
      ∙ ap (counts_stored c.args.n live)
      (c.store_heads.ensures.state_after
      ∙ ap₂ (heads_stored c.args.n) (sym keeps.rows_are)
      (c.store_tags.ensures.state_after
      ∙ ap₂ (tags_stored c.args.n) (sym keeps.rows_are)
      (c.store_accepted.ensures.words_after ∙ ap (λ (x : ℕ). sets c.args.words.now accepted_word (x ∷ [])) (sym keeps.accepted_is))));
  words_len_unchanged = search rules;
}
