-- What a table is judged by are its refusals, one by one.
-- Assumes nothing.
use Prim.Native.Nat.{ℕ, ◌≤◌, ◌<◌}
use mathlib.Core.Path.{◌≡◌, refl, sym, ◌∙◌, ap}
use native.Mathlib.Decide.{ℕ_discrete}
use lib.ListN.{length, get_or}
use borrow.Author.Tests.{eq-eqb, ne_eqb}
use Rattle.std.specs.Prelude.{Option, Some, None, Ok}
use Rattle.input.specs.declared.Refusal.{Refusal}
use Rattle.input.specs.Limits.{most_rows}
use Rattle.input.specs.Classes.{Table, tree_of}
use Rattle.input.specs.Refusals.{nothing, row_refused}
use Rattle.tables.specs.Judged.{verdict}
use Rattle.tables.proofs.Firsts.{Plain, row_plain}
use Rattle.tables.proofs.Answering.{verdict_at}
use Rattle.refusals.specs.declared.Judged.{Judged}
use Rattle.refusals.specs.All.{sum_refusal, row_by_row}
use Rattle.refusals.specs.Stated.{Judges}

-- the number of what refuses, and its second place; 0 where nothing does
abbrev pub number_of : Option Refusal → ℕ
number_of None = 0
number_of (Some refusal) = refusal.number

abbrev pub second_of : Option Refusal → ℕ
second_of None = 0
second_of (Some refusal) = refusal.second

verdict_number : (refusal : Refusal) → number_of (verdict refusal) ≡ refusal.number
unfolding verdict
verdict_number refusal = go (ℕ_discrete refusal.number 0)
  where
    go : Dec (refusal.number ≡ 0) → number_of (verdict refusal) ≡ refusal.number
    go (yes none) = rw (eq-eqb refusal.number 0 none) (sym none)
    go (no some) = rw (ne_eqb refusal.number 0 some) refl

verdict_second : (refusal : Refusal) → Plain refusal → second_of (verdict refusal) ≡ refusal.second
unfolding verdict nothing
verdict_second refusal plain = go (ℕ_discrete refusal.number 0)
  where
    go : Dec (refusal.number ≡ 0) → second_of (verdict refusal) ≡ refusal.second
    go (yes none) = rw (eq-eqb refusal.number 0 none) (sym (ap (λ (r : Refusal). r.second) (plain none)))
    go (no some) = rw (ne_eqb refusal.number 0 some) refl

-- of a table that is not refused for its number of rows
module _ (table : Table) (judged : Judged) (judges : Judges table (Ok judged)) (few : length table.identifiers ≤ most_rows) (r : ℕ)
    (inside : r < length table.identifiers) where
  -- each row has its own refusal
  pub own_refusal : get_or judged.refusals r None ≡ verdict (row_refused table r)
  unfolding row_by_row
  own_refusal = rw judges.1 (verdict_at (row_refused table) (length table.identifiers) few r inside)

  pub own_number : number_of (get_or judged.refusals r None) ≡ (row_refused table r).number
  own_number = ap number_of own_refusal ∙ verdict_number (row_refused table r)

  pub own_second : second_of (get_or judged.refusals r None) ≡ (row_refused table r).second
  own_second = ap second_of own_refusal ∙ verdict_second (row_refused table r) (row_plain table r)

  sum_verdict : get_or judged.sums r None ≡ verdict (sum_refusal (tree_of table) (length table.identifiers) r)
  unfolding row_by_row
  sum_verdict = rw judges.1 (verdict_at (sum_refusal (tree_of table) (length table.identifiers)) (length table.identifiers) few r inside)

  pub own_sum : number_of (get_or judged.sums r None) ≡ (sum_refusal (tree_of table) (length table.identifiers) r).number
  own_sum = ap number_of sum_verdict ∙ verdict_number (sum_refusal (tree_of table) (length table.identifiers) r)
