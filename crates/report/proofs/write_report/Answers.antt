-- `report::write_report` meets its contract: each row's words are written after those of the rows passed.
-- Assumes nothing.
use Prim.Native.Nat.{◌+◌, ◌*◌, ◌-◌}
use mathlib.Core.Path.{◌∙◌, refl}
use native.Mathlib.Numerals.{add-one}
use native.Mathlib.Omega.{arith}
use Rattle.rules.specs.Outcome.{row_report, report_of, over}
use Rattle.rules.proofs.Results.{report_length}
use Rattle.rules.proofs.Over.{over_more}
use Rattle.report.proofs.Rows.{row_reported, part_written}
use Rattle.report.proofs.write_report.Goals as goal

pub loop-r-init : goal.loop-r-init
unfolding over report_of
loop-r-init c tree box sending shown = refl

pub loop-r-preserved : goal.loop-r-preserved
unfolding report_of row_report
loop-r-preserved c tree box sending shown =
    let r = c.loop-r.r in
    let words = row_report tree box r in
    let copied = c.copy_from_slice.ensures.after ∙ c.row_words.ensures ∙ row_reported tree box r _ _ _ (sending r (omega arith)) shown in
    rw (add-one, copied)
    (part_written words c.loop-r.report (5 * r) (5 * r + 5 - 5 * r) (omega arith) (omega (arith, c.loop-r.auto.report, c.requires.report_room))
    ∙ over_more (report_of tree box r) words _ _ (5 * r) (report_length tree box r) (omega (arith, c.requires.report_room)) (c.loop-r.invariant tree box sending shown))
