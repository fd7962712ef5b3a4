-- `State::fill` meets its contract: a word that is too large is in no sound state, and else list by list.
-- Assumes nothing.
use mathlib.Core.Bool.{false≢true}
use mathlib.Core.Path.{sym, ap, ◌∙◌}
use Rattle.live_rules.specs.State.{live_in}
use Rattle.state.proofs.Unfit.{counted_use, tree_unfit, heads_unfit, filled_inside}
use Rattle.state.specs.Reading.{counts_of}
use Rattle.state.specs.declared.counts.Counts.{Counts}
use Rattle.state.proofs.Parts.{few_fails}
use Rattle.state.proofs.State.fill.Goals as goal

pub returns-in_default : goal.returns-in_default
returns-in_default c = (λ no. few_fails (live_in c.args.words.now) c.in_default.ensures, λ yes. absurd (false≢true yes))

pub fill_tree-requires : goal.fill_tree-requires
fill_tree-requires c = let used = counted_use c.args.words.now c.in-Some.counts c.requires c.in-Some.ensures in (used.few, c.requires)

pub returns-then-not-fill_tree : goal.returns-then-not-fill_tree
returns-then-not-fill_tree c =
    let used = counted_use c.args.words.now c.in-Some.counts c.requires c.in-Some.ensures in
    (λ no. tree_unfit c.args.words.now c.in-Some.counts.rows used (sym c.fill_tree.ensures.fits ∙ c.if-not-fill_tree.true), λ yes. absurd (false≢true yes))

pub fill_heads-requires : goal.fill_heads-requires
fill_heads-requires c = let used = counted_use c.args.words.now c.in-Some.counts c.requires c.in-Some.ensures in (used.few, c.requires)

pub returns-then-not-fill_heads : goal.returns-then-not-fill_heads
returns-then-not-fill_heads c =
    let used = counted_use c.args.words.now c.in-Some.counts c.requires c.in-Some.ensures in
    (λ no. heads_unfit c.args.words.now c.in-Some.counts.rows used (sym c.fill_heads.ensures.fits ∙ c.if-not-fill_heads.true), λ yes. absurd (false≢true yes))

pub fill_tags-requires : goal.fill_tags-requires
fill_tags-requires c = let used = counted_use c.args.words.now c.in-Some.counts c.requires c.in-Some.ensures in (used.few, c.requires)

pub senders_of-self-requires : goal.senders_of-self-requires
senders_of-self-requires c =
    let used = counted_use c.args.words.now c.in-Some.counts c.requires c.in-Some.ensures in
    let tree = c.fill_tree.ensures.filled c.if-not-fill_tree.false in
    record {
      n_le_most_rows = used.few;
      inside = λ r below. filled_inside c.args.words.now c.in-Some.counts.rows used _ _ tree (sym c.fill_tree.ensures.fits ∙ c.if-not-fill_tree.false) r;
    }

pub returns : goal.returns
unfolding counts_of
returns c =
    let used = counted_use c.args.words.now c.in-Some.counts c.requires c.in-Some.ensures in
    let tree = c.fill_tree.ensures.filled c.if-not-fill_tree.false in
    let heads = c.fill_heads.ensures.filled c.if-not-fill_heads.false in
    let tags = c.fill_tags.ensures in (
      λ no. absurd (false≢true (sym no)),
      λ yes. record {
        few_so = c.in-Some.ensures.0;
        rows = ap (λ (k : Counts). k.rows) c.in-Some.ensures.1;
        packets = ap (λ (k : Counts). k.packets) c.in-Some.ensures.1;
        accepted = ap (λ (k : Counts). k.accepted) c.in-Some.ensures.1;
        tree = tree;
        heads = record {
          heads = tags.stay.heads ∙ heads.heads;
          head_lengths = tags.stay.head_lengths ∙ heads.head_lengths;
          head_classes = tags.stay.head_classes ∙ heads.head_classes;
          held = tags.stay.held ∙ heads.held;
        };
        starts = tags.starts;
        finishes = tags.finishes;
        virtuals = tags.virtuals;
        bytes = tags.bytes;
        since = tags.since;
        parent_since = tags.parent_since;
        inside = filled_inside c.args.words.now c.in-Some.counts.rows used _ _ tree (sym c.fill_tree.ensures.fits ∙ c.if-not-fill_tree.false);
        sending = c.senders_of-self.ensures;
      },
    )
