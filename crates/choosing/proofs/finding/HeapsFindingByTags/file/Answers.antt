-- `Heaps::file` meets its contract: a row with a head is added to its parent's heaps, one without is not missed there.
-- Assumes nothing.
use Prim.Native.Nat.{ℕ}
use mathlib.Core.Path.{sym, ◌∙◌}
use mathlib.Core.List.{List}
use Rattle.laws.proofs.Level.Heads.{has_true, has_false}
use Rattle.filing.proofs.Heading.{one_aside, none_aside}
use Rattle.rules.specs.Box.{Rows, has_head}
use Rattle.arrays.specs.declared.RowArrays.{RowArrays}
use Rattle.arrays.specs.Arrays.{rows_of}
use Rattle.choosing.proofs.finding.HeapsFindingByTags.file.Goals as goal

abbrev with_lengths : RowArrays → List ℕ → List ℕ → Rows
with_lengths rows lengths classes = rows_of rows.starts rows.finishes rows.virtuals rows.heads lengths classes

pub returns-then-has_head : goal.returns-then-has_head
unfolding has_head
returns-then-has_head c tree class_of lengths classes sound kid old =
    let a = with_lengths c.args.rows.now lengths classes in
    let has = has_true a _ (sym c.has_head.ensures ∙ c.if-has_head.true) in
    rw c.add.ensures (one_aside tree sound class_of a _ _ _ kid has old)

pub returns-else-has_head : goal.returns-else-has_head
unfolding has_head
returns-else-has_head c tree class_of lengths classes sound kid old =
    let a = with_lengths c.args.rows.now lengths classes in
    none_aside tree sound class_of a _ _ (has_false a _ (sym c.has_head.ensures ∙ c.if-has_head.false)) old
