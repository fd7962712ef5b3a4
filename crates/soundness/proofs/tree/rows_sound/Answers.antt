-- `rows_sound` meets its contract: its answers go by the tests on their way.
-- Assumes nothing.
use mathlib.Core.Path.{refl, sym, ◌∙◌}
use mathlib.Core.Bool.{false≢true}
use lib.ListN.{take}
use Rattle.arrays.specs.Arrays.{tree_in}
use Rattle.soundness.proofs.tree.rows_sound.Goals as goal
use Rattle.soundness.proofs.tree.rows_sound.Goals.{then-root_sound, else-root_sound}

pub returns-then-all_named : goal.returns-then-all_named
returns-then-all_named c =
    let a = c.args in
    let ids = take a.n a.identifiers.now in
    elim c.if-root_sound.branch [
      | then-root_sound w ↦
          rw (← c.root_sound.ensures a.n ids, w.if-root_sound.true, ← w.all_named.ensures (tree_in a.n ids a.tree.now) refl refl, ← w.value-is, c.if-all_named.true)
          (c.classes_sound.ensures ids)
      | else-root_sound w ↦ absurd (false≢true (sym w.if-root_sound.false ∙ sym w.value-is ∙ c.if-all_named.true))
    ]
