-- The first of all refusals is the one that a run gives.
-- Assumes nothing.
use Prim.Native.Nat.{ℕ, zero, suc, ◌+◌, ◌≤◌, ◌<◌}
use mathlib.Core.Path.{◌≡◌, refl, sym, ◌∙◌, ap, ap₂}
use mathlib.Core.Bool.{Bool, true, false, cond}
use mathlib.Core.Logic.{◌≢◌}
use mathlib.Core.List.{[], ◌∷◌}
use native.Mathlib.Decide.{ℕ_discrete}
use native.Mathlib.Omega.{arith}
use lib.Dec.{ltb}
use lib.ListN.{length, take, get_or, length-take}
use borrow.Author.Tests.{lt-ltb, eqb-false}
use Rattle.input.specs.declared.Refusal.{Refusal}
use Rattle.input.specs.Classes.{Table, parent_of, earlier, tree_of, parent, share, child}
use Rattle.input.specs.Classes as classes
use Rattle.input.specs.Refusals.{or_else, first, first_below, row_refused, class_refused, shares_refused, table_refused}
use Rattle.laws.proofs.Tree.Trees.{first_none, below_none, given_none, place_most, tree_rows, parent_at}
use Rattle.laws.proofs.Tree.Paths.{child_kid}
use Rattle.tables.specs.Sized.{Sized}
use Rattle.tables.proofs.Firsts.{Plain, or_else_first, or_else_second, given_plain, row_plain, first_append}
use Rattle.refusals.specs.All.{child_share, children_share, listed, sum_refused, sum_refusal, all_refused}

-- ── the first of a list and of many are one ──

listed_first : (at : ℕ → Refusal) → ((i : ℕ) → Plain (at i)) → (n : ℕ) → first (listed at n) ≡ first_below at n
unfolding listed first first_below
listed_first at plain zero = refl
listed_first at plain (suc n) =
    first_append (listed at n) (at n ∷ []) ∙ ap₂ or_else (listed_first at plain n) (last (at n) (plain n))
  where
    last : (a : Refusal) → Plain a → or_else a (first []) ≡ a
    last a plain_a = go (ℕ_discrete a.number 0)
      where
        go : Dec (a.number ≡ 0) → or_else a (first []) ≡ a
        go (yes none) = or_else_second a (first []) none ∙ sym (plain_a none)
        go (no some) = or_else_first a (first []) some

-- ── sums, where no row is refused ──

module _ (table : Table) (sized : Sized table) where
  abbrev n : ℕ
  n = length table.identifiers

  found : (r : ℕ) → 0 < r → (row_refused table r).number ≡ 0 → parent_of table r ≢ r
  unfolding row_refused class_refused
  found zero positive fine = absurd (omega arith)
  found (suc r) positive fine = eqb-false _ _ (given_none _ _ _ (first_none _ fine).1.1.1.0)

  above : (r : ℕ) → 0 < r → r < n → (row_refused table r).number ≡ 0 → parent (tree_of table) r < r
  unfolding tree_of parent_of earlier
  above r positive inside fine =
      let most = place_most (get_or table.parent_identifiers r 0) (take r table.identifiers) in
      let cut : length (take r table.identifiers) ≤ r = simp length-take (omega arith) in
      omega (arith, found r positive fine, most, cut, parent_at table n sized.most r inside)

  module _ (fine : (r : ℕ) → r < n → (row_refused table r).number ≡ 0) where
    same_child : (p r : ℕ) → r < n → child_share (tree_of table) p r ≡ cond (child (tree_of table) p r) (share (tree_of table) r) 0
    unfolding child_share
    same_child p r inside = go (child (tree_of table) p r) refl
      where
        nothing_else : (b : Bool) (z : ℕ) → cond b z z ≡ z
        nothing_else true z = refl
        nothing_else false z = refl

        go : (b : Bool) → child (tree_of table) p r ≡ b → cond (ltb p r) (cond b (share (tree_of table) r) 0) 0 ≡ cond b (share (tree_of table) r) 0
        go true is =
            let kid = child_kid (tree_of table) p r (omega (arith, tree_rows table)) is in
            let lower = above r kid.positive inside (fine r inside) in
            rw (lt-ltb p r (omega (arith, kid.under))) refl
        go false is = nothing_else (ltb p r) 0

    same_sum : (p m : ℕ) → m ≤ n → children_share (tree_of table) p m ≡ classes.children_share (tree_of table) p m
    unfolding children_share classes.children_share
    same_sum p zero few = refl
    same_sum p (suc m) few = ap₂ ◌+◌ (same_sum p m (omega arith)) (same_child p m (omega arith))

    same_refusal : (p : ℕ) → sum_refusal (tree_of table) n p ≡ shares_refused table p
    unfolding sum_refused sum_refusal shares_refused
    same_refusal p = rw (same_sum p n (omega arith)) refl

    same_first : (m : ℕ) → first_below (sum_refusal (tree_of table) n) m ≡ first_below (shares_refused table) m
    unfolding first_below
    same_first zero = refl
    same_first (suc m) = ap₂ or_else (same_first m) (same_refusal m)

  sum_plain : (p : ℕ) → Plain (sum_refusal (tree_of table) n p)
  unfolding sum_refused sum_refusal
  sum_plain p = given_plain _ 10 p (omega arith)

  pub first_is_the_runs : first (all_refused table) ≡ table_refused table
  unfolding all_refused table_refused
  first_is_the_runs =
      first_append (listed (row_refused table) n) (listed (sum_refusal (tree_of table) n) n)
      ∙ (ap₂ or_else (listed_first (row_refused table) (row_plain table) n) (listed_first (sum_refusal (tree_of table) n) sum_plain n)
      ∙ go (ℕ_discrete (first_below (row_refused table) n).number 0))
    where
      rows : Refusal
      rows = first_below (row_refused table) n

      go :
          Dec (rows.number ≡ 0)
          → or_else rows (first_below (sum_refusal (tree_of table) n) n) ≡ or_else rows (first_below (shares_refused table) n)
      go (yes none) = ap (or_else rows) (same_first (below_none (row_refused table) n none) n)
      go (no some) = or_else_first rows _ some ∙ sym (or_else_first rows _ some)
