-- What the rows of a table are read as; what a table that passed the first check is known to be.
-- Assumes nothing.
use Prim.Native.Nat.{ℕ, zero, suc, ◌≤◌, ◌<◌}
use mathlib.Core.Path.{◌≡◌, refl, ◌∙◌}
use mathlib.Core.Bool.{Bool, not, ◌||◌}
use mathlib.Core.List.{List}
use mathlib.Mathlib.Data.Bool.Basic.{or-eq-false-eq-eq-false-and-eq-false as or-is-false}
use native.Mathlib.Decide.{ℕ_discrete}
use native.Mathlib.Omega.{arith}
use lib.Dec.{eqb, ltb}
use lib.ListN.{length, get_or, set, length-set}
use lib.Seq.{get_or-set_same, get_or-set_other}
use borrow.Author.Tests.{eqb-true, ltb-false, not-false}
use Rattle.std.specs.Prelude.{None}
use Rattle.input.specs.declared.Refusal.{Refusal}
use Rattle.input.specs.Limits.{least_rows, most_rows}
use Rattle.input.specs.Classes.{Table, tree_of}
use Rattle.input.specs.Refusals.{rows_refused, row_refused}
use Rattle.laws.proofs.Tree.Trees.{given_none, tree_rows}
use Rattle.arrays.specs.declared.TreeArrays.{TreeArrays}
use Rattle.tables.specs.declared.Rows.{Rows}
use Rattle.tables.specs.declared.Reading.{Reading}
use Rattle.tables.specs.Sized.{Sized}
use Rattle.tables.specs.Judged.{verdict}
use Rattle.tables.specs.Answers.{verdicts, rows_read, senders_below, accepting}

-- ── a table that is not refused by its lengths ──

pub sized : (table : Table) → (rows_refused table).number ≡ 0 → Sized table
unfolding rows_refused
sized table none =
    let n = length table.identifiers in
    let a = not (eqb (length table.parent_identifiers) n) in
    let b = not (eqb (length table.shares) n) in
    let c = ltb n least_rows in
    let d = ltb most_rows n in
    let all = (or-is-false (a || b || c) d).0 (given_none _ _ _ none) in
    let three = (or-is-false (a || b) c).0 all.0 in
    let two = (or-is-false a b).0 three.0 in
    let some = ltb-false n least_rows three.1 in
    record {
      parents = eqb-true (length table.parent_identifiers) n (not-false (eqb (length table.parent_identifiers) n) two.0);
      shares = eqb-true (length table.shares) n (not-false (eqb (length table.shares) n) two.1);
      some = omega arith;
      most = ltb-false most_rows n all.1;
    }

-- ── what refuses each row ──

module _ (at : ℕ → Refusal) where
  verdicts_long : (n : ℕ) → length (verdicts at n) ≡ most_rows
  unfolding verdicts
  verdicts_long zero = refl
  verdicts_long (suc n) = length-set (verdicts at n) n (verdict (at n)) ∙ verdicts_long n

  pub verdict_at : (n : ℕ) → n ≤ most_rows → (r : ℕ) → r < n → get_or (verdicts at n) r None ≡ verdict (at r)
  unfolding verdicts
  verdict_at zero few r below = absurd (omega arith)
  verdict_at (suc n) few r below = go (ℕ_discrete r n) (λ lower. verdict_at n (omega arith) r lower)
    where
      go : Dec (r ≡ n) → (r < n → get_or (verdicts at n) r None ≡ verdict (at r)) → get_or (set (verdicts at n) n (verdict (at n))) r None ≡ verdict (at r)
      go (yes same) before = rw same (get_or-set_same (verdicts at n) n (verdict (at n)) None (rw (verdicts_long n) (omega arith)))
      go (no other) before = get_or-set_other (verdicts at n) n r (verdict (at n)) None other ∙ before (omega arith)

-- ── a table of one length ──

abbrev pub reading_of : TreeArrays → List Bool → Reading
reading_of tree senders = record { tree = tree; senders = senders }

module _ (table : Table) (rows : Rows) (eRows : rows ≡ rows_read table (length table.identifiers)) where
  pub parents_read : (tree_of table).parents ≡ rows.tree.parents
  unfolding tree_of rows_read
  parents_read = rw eRows refl

  pub shares_read : (tree_of table).shares ≡ rows.tree.shares
  unfolding tree_of rows_read
  shares_read = rw eRows refl

  pub refusals_read : length table.identifiers ≤ most_rows → (r : ℕ) → r < length table.identifiers
      → get_or rows.refusals r None ≡ verdict (row_refused table r)
  unfolding rows_read
  refusals_read few r inside = rw eRows (verdict_at (row_refused table) (length table.identifiers) few r inside)

  pub accepted : (senders : List Bool) → senders ≡ senders_below (tree_of table) (length table.identifiers)
      → reading_of rows.tree senders ≡ accepting (tree_of table)
  unfolding accepting tree_of rows_read
  accepted senders e = rw (eRows, e, tree_rows table) refl
