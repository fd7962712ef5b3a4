-- `holding::rows::matches_of` meets its contract: the rows passed have left their marks.
-- Assumes nothing.
use mathlib.Core.Path.{◌≡◌, ◌∙◌}
use mathlib.Core.Bool.{Bool, false, ◌||◌}
use lib.ListN.{get_or, length-set, length-replicate}
use Rattle.input.specs.Limits.{most_rows}
use Rattle.holding.specs.Row.{passed_on}
use Rattle.holding.proofs.Passing.{matches_none, matches_more}
use Rattle.holding.proofs.rows.matches_of.Goals as goal
use Rattle.holding.proofs.rows.matches_of.Goals.{then-marks-p, else-marks-p}

pub loop-t-init : goal.loop-t-init
loop-t-init c =
    let s = c.args in
    (length-replicate {A = Bool} most_rows false, matches_none s.tree.now.parents s.rows.now.heads s.rows.now.head_lengths s.rows.now.head_classes)

pub loop-t-preserved : goal.loop-t-preserved
loop-t-preserved c =
    let at = c.loop-t in
    let s = c.args in
    let row = c.parent_of-p in
    let rows = s.rows.now in
    let passed = passed_on at.t (get_or rows.heads at.t 0) (get_or rows.head_lengths at.t 0) (get_or rows.head_classes at.t 0)
    (get_or rows.heads row.result 0)
    (get_or rows.head_lengths row.result 0)
    (get_or rows.head_classes row.result 0) in
    let marked : c.if-marks-p.marks ≡ (get_or at.marks row.result false || passed) =
    elim c.if-marks-p.branch [
      | then-marks-p w ↦ rw w.if-marks-p.true (w.marks-is ∙ w.if-marks-p.true)
      | else-marks-p w ↦ rw w.if-marks-p.false (w.marks-is ∙ w.passed_on.ensures)
    ] in (
      length-set at.marks row.result c.if-marks-p.marks ∙ at.invariant.0,
      matches_more s.tree.now.parents rows.heads rows.head_lengths rows.head_classes at.t at.marks row.result c.if-marks-p.marks
          at.invariant.0
          at.invariant.1
          row.ensures.1
          row.ensures.0
          marked,
    )
