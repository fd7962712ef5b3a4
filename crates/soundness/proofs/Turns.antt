-- One turn of each walk over the rows: what is kept for each row moves as the rules' own recursion does.
-- Assumes nothing.
use Prim.Native.Nat.{ℕ, zero, suc, ◌+◌, ◌≤◌, ◌<◌, max}
use mathlib.Core.Path.{◌≡◌, refl, sym, ap}
use mathlib.Core.Bool.{Bool, true, false, not, cond, ◌&&◌, ◌||◌, and-false, or-true}
use mathlib.Core.List.{List}
use native.Mathlib.Decide.{ℕ_discrete}
use native.Mathlib.Omega.{arith}
use borrow.Author.Tests.{eq-eqb, ne_eqb, lt-ltb}
use lib.Dec.{ltb, eqb}
use lib.ListN.{length, get_or, set, replicate, get_or-replicate}
use lib.Seq.{get_or-set_same, get_or-set_other}
use Rattle.input.specs.Limits.{most_rows}
use Rattle.input.specs.Classes.{Tree, parent, child, has_child, sends}
use Rattle.live_rules.specs.Soundness.{children_sum}
use Rattle.soundness.proofs.Alls.{or_false}

-- row r, which is not the root, is a child of p where p is its parent
child_is : (tree : Tree) (p r : ℕ) → 0 < r → child tree p r ≡ eqb (parent tree r) p
unfolding child
child_is tree p r some = rw (lt-ltb 0 r some)

-- ── the sending classes ──

-- row p is not the root and has no child among the first n rows
unfoldable pub childless : Tree → ℕ → ℕ → Bool
childless tree n p = ltb 0 p && not (has_child tree p n)

-- a sending class is such a row among all
pub sends_is : (tree : Tree) (n r : ℕ) → tree.rows ≡ n → sends tree r ≡ childless tree n r
unfolding sends childless
sends_is tree n r e = ap (λ (rows : ℕ). ltb 0 r && not (has_child tree r rows)) e

-- before the first class the root alone is marked
pub senders_start : (tree : Tree) (p : ℕ) → p < most_rows → childless tree 1 p ≡ get_or (set (replicate most_rows true) 0 false) p false
unfolding childless has_child child
senders_start tree zero inside = refl
senders_start tree (suc p) inside =
    rw (
      lt-ltb 0 (suc p) (omega arith),
      get_or-set_other (replicate most_rows true) 0 (suc p) false false (λ e. absurd (omega arith)),
      get_or-replicate most_rows (suc p) true false inside,
    )

pub senders_turn : (tree : Tree) (marks : List Bool) (r : ℕ) → 0 < r → length marks ≡ most_rows
    → ((p : ℕ) → p < most_rows → childless tree r p ≡ get_or marks p false)
    → (p : ℕ) → p < most_rows → childless tree (suc r) p ≡ get_or (set marks (parent tree r) false) p false
unfolding childless has_child
senders_turn tree marks r some full before p inside = go (ℕ_discrete p (parent tree r))
  where
    go : Dec (p ≡ parent tree r) → (ltb 0 p && not (has_child tree p r || child tree p r)) ≡ get_or (set marks (parent tree r) false) p false
    go (yes same) =
        rw (
          child_is tree p r some,
          ← same,
          get_or-set_same marks p false false (rw full inside),
          eq-eqb p p refl,
          or-true (has_child tree p r),
        )
        (and-false (ltb 0 p))
    go (no other) =
        rw (
          child_is tree p r some,
          get_or-set_other marks (parent tree r) p false false other,
          ne_eqb (parent tree r) p (λ e. other (sym e)),
          or_false (has_child tree p r),
        )
        (before p inside)

-- ── what children have together ──

pub sums_start : (tree : Tree) (xs : List ℕ) (p : ℕ) → children_sum tree xs p 1 ≡ 0
unfolding children_sum child
sums_start tree xs p = refl

-- a walk that starts at row 1 is at its end
pub sums_end : (tree : Tree) (xs : List ℕ) (p n r : ℕ) → n ≤ r → r ≤ max 1 n → children_sum tree xs p r ≡ children_sum tree xs p n
unfolding children_sum child
sums_end tree xs p zero zero past most = refl
sums_end tree xs p zero (suc zero) past most = refl
sums_end tree xs p zero (suc (suc r)) past most = absurd (omega arith)
sums_end tree xs p (suc n) r past most = let end : r ≡ suc n = omega arith in rw end

pub sums_turn : (tree : Tree) (xs sums : List ℕ) (r : ℕ) → 0 < r → length sums ≡ most_rows
    → ((p : ℕ) → p < most_rows → get_or sums p 0 ≡ children_sum tree xs p r)
    → (p : ℕ) → p < most_rows
    → get_or (set sums (parent tree r) (get_or sums (parent tree r) 0 + get_or xs r 0)) p 0 ≡ children_sum tree xs p (suc r)
unfolding children_sum
sums_turn tree xs sums r some full before p inside = go (ℕ_discrete p (parent tree r)) (before p inside)
  where
    go : Dec (p ≡ parent tree r) → get_or sums p 0 ≡ children_sum tree xs p r
        → get_or (set sums (parent tree r) (get_or sums (parent tree r) 0 + get_or xs r 0)) p 0
        ≡ children_sum tree xs p r + cond (child tree p r) (get_or xs r 0) 0
    go (yes same) here =
        rw (
          child_is tree p r some,
          ← same,
          get_or-set_same sums p (get_or sums p 0 + get_or xs r 0) 0 (rw full inside),
          eq-eqb p p refl,
        )
        (omega arith)
    go (no other) here =
        rw (
          child_is tree p r some,
          get_or-set_other sums (parent tree r) p (get_or sums (parent tree r) 0 + get_or xs r 0) 0 other,
          ne_eqb (parent tree r) p (λ e. other (sym e)),
        )
        (omega arith)
