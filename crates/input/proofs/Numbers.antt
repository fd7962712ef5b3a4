-- The numbers that a class table is refused with lie between 4 and 15: what all of those have, its refusal has.
-- Assumes nothing.
use Prim.Native.Nat.{ℕ, zero, suc, ◌≤◌}
use mathlib.Core.Bool.{Bool, true, false, cond}
use native.Mathlib.Omega.{arith}
use lib.Dec.{ltb, eqb}
use lib.ListN.{length}
use Rattle.input.specs.declared.Refusal.{Refusal}
use Rattle.input.specs.Classes.{Table}
use Rattle.input.specs.Refusals.{nothing, given, or_else, first, first_below, doubled, root_refused, class_refused, row_refused, shares_refused, table_refused}

module _ (has : ℕ → Type 0) (none : has 0) (each : (number : ℕ) → 4 ≤ number → number ≤ 15 → has number) where
  given_has : (test : Bool) (number place : ℕ) → 4 ≤ number → number ≤ 15 → has (given test number place).number
  unfolding given nothing
  given_has true number place low high = each number low high
  given_has false number place low high = none

  or_has : (x y : Refusal) → has x.number → has y.number → has (or_else x y).number
  unfolding or_else
  or_has x y one other = go (eqb x.number 0)
    where
      go : (b : Bool) → has (cond b y x).number
      go true = other
      go false = one

  last_has : (x : Refusal) → has x.number → has (or_else x nothing).number
  unfolding nothing
  last_has x one = or_has x nothing one none

  below_has : (at : ℕ → Refusal) → ((i : ℕ) → has (at i).number) → (n : ℕ) → has (first_below at n).number
  unfolding first_below nothing
  below_has at all zero = none
  below_has at all (suc i) = or_has (first_below at i) (at i) (below_has at all i) (all i)

  doubled_has : (r other : ℕ) → has (doubled r other).number
  unfolding doubled nothing
  doubled_has r other = go (ltb other r)
    where
      go : (b : Bool) → has (cond b (record { number = 5; place = r; second = other }) nothing).number
      go true = each 5 (omega arith) (omega arith)
      go false = none

  row_has : (table : Table) (r : ℕ) → has (row_refused table r).number
  unfolding row_refused root_refused class_refused first
  row_has table zero =
      or_has (given _ 4 0) _ (given_has _ 4 0 (omega arith) (omega arith))
      (or_has (given _ 15 0) _ (given_has _ 15 0 (omega arith) (omega arith)) (last_has (given _ 6 0) (given_has _ 6 0 (omega arith) (omega arith))))
  row_has table (suc r) =
      or_has (given _ 4 (suc r)) _ (given_has _ 4 (suc r) (omega arith) (omega arith))
      (or_has (given _ 15 (suc r)) _ (given_has _ 15 (suc r) (omega arith) (omega arith))
      (or_has (doubled (suc r) _) _ (doubled_has (suc r) _)
      (or_has (given _ 7 (suc r)) _ (given_has _ 7 (suc r) (omega arith) (omega arith))
      (or_has (given _ 8 (suc r)) _ (given_has _ 8 (suc r) (omega arith) (omega arith))
      (last_has (given _ 9 (suc r)) (given_has _ 9 (suc r) (omega arith) (omega arith)))))))

  pub table_has : (table : Table) → has (table_refused table).number
  unfolding table_refused shares_refused
  table_has table =
      let n = length table.identifiers in
      or_has (first_below (row_refused table) n) (first_below (shares_refused table) n) (below_has (row_refused table) (row_has table) n)
      (below_has (shares_refused table) (λ p. given_has _ 10 p (omega arith) (omega arith)) n)
