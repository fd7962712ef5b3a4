-- `holding::rows::rows_sound` meets its contract: a walk over the rows tests each.
-- Assumes nothing.
use mathlib.Core.Path.{refl, sym, ◌∙◌}
use borrow.Author.Rules.{rules}
use borrow.Author.Tests.{tests}
use Rattle.holding.specs.Rows.{row_tested}
use Rattle.soundness.proofs.Alls.{all_tested}
use Rattle.holding.proofs.Sound.{rows_so}
use Rattle.holding.proofs.rows.rows_sound.Goals as goal

pub returns : goal.returns
returns c live l =
    let a = c.args in
    all_tested _ _ c.all.result a.n (row_tested a.left a.tree.now a.senders.now a.rows.now a.counts.now a.walked.now) c.all.ensures.ran refl
    (λ x r q k. search (rules, tests))
    ∙ sym (rows_so l)
