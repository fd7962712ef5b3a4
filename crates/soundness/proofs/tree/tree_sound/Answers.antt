-- `tree_sound` meets its contract: the parts of a sound tree one after the other, the parents' range before they are indices.
-- Assumes nothing.
use Prim.Native.Nat.{ℕ}
use mathlib.Core.Path.{refl, sym, ap, ◌∙◌}
use native.Mathlib.Omega.{arith}
use lib.Dec.{leb}
use lib.ListN.{get_or, take}
use Rattle.input.specs.Limits.{whole}
use Rattle.arrays.specs.Arrays.{tree_in}
use Rattle.live_rules.specs.Soundness.{children_sum}
use Rattle.live_rules.proofs.Alls.{all_same}
use Rattle.soundness.proofs.Parts.{rows_fail, sums_decide, rows_inside}
use Rattle.soundness.proofs.tree.tree_sound.Goals as goal

pub children_sums-requires-clause-inside : goal.children_sums-requires-clause-inside
children_sums-requires-clause-inside c r below =
    let a = c.args in
    let inside = rows_inside (tree_in a.n (take a.n a.identifiers.now) a.tree.now) (sym c.rows_sound.ensures ∙ c.if-rows_sound.true) r below in
    omega arith

pub returns-then-rows_sound : goal.returns-then-rows_sound
returns-then-rows_sound c =
    let a = c.args in
    let tree = tree_in a.n (take a.n a.identifiers.now) a.tree.now in
    let sums = c.children_sums in
    c.within_whole.ensures
    ∙ all_same a.n (λ p. leb (get_or sums.result p 0) whole) (λ p. leb (children_sum tree a.tree.now.shares p a.n) whole)
    (λ p inside. ap (λ (sum : ℕ). leb sum whole) (sums.ensures tree refl p (omega arith)))
    ∙ sym (sums_decide tree (sym c.rows_sound.ensures ∙ c.if-rows_sound.true))

pub returns-else-rows_sound : goal.returns-else-rows_sound
returns-else-rows_sound c =
    let a = c.args in
    c.if-rows_sound.false ∙ sym (rows_fail (tree_in a.n (take a.n a.identifiers.now) a.tree.now) (sym c.rows_sound.ensures ∙ c.if-rows_sound.false))
