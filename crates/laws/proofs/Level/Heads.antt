-- A row's head, as the rules test it and as the theorems have it; rows that are unchanged.
-- Assumes nothing.
use Prim.Native.Nat.{ℕ}
use mathlib.Core.Path.{◌≡◌, ap}
use mathlib.Core.Logic.{◌≢◌}
use mathlib.Core.Bool.{true, false, not}
use native.Mathlib.Omega.{arith}
use lib.Dec.{eqb}
use borrow.Author.Tests.{eqb-true, eqb-false, eq-eqb, ne_eqb, not-true, not-false}
use Rattle.input.specs.Classes.{Tree}
use Rattle.rules.specs.Box.{Rows, head, has_head}
use Rattle.laws.specs.Sound.{Kid}
use Rattle.laws.specs.Moves.{SameRow, Still}

-- ── heads ──

-- from the test to the fact
pub has_true : (a : Rows) (r : ℕ) → has_head a r ≡ true → head a r ≢ 0
unfolding has_head
has_true a r is = eqb-false (head a r) 0 (not-true (eqb (head a r) 0) is)

pub has_false : (a : Rows) (r : ℕ) → has_head a r ≡ false → head a r ≡ 0
unfolding has_head
has_false a r is = eqb-true (head a r) 0 (not-false (eqb (head a r) 0) is)

-- and back
pub some_has : (a : Rows) (r : ℕ) → head a r ≢ 0 → has_head a r ≡ true
unfolding has_head
some_has a r some = ap not (ne_eqb (head a r) 0 some)

pub none_has : (a : Rows) (r : ℕ) → head a r ≡ 0 → has_head a r ≡ false
unfolding has_head
none_has a r none = ap not (eq-eqb (head a r) 0 none)

-- ── unchanged rows ──

pub same_row : (a : Rows) (j : ℕ) → SameRow a a j
same_row a j = omega arith

pub then_same : (a b c : Rows) (j : ℕ) → SameRow a b j → SameRow b c j → SameRow a c j
then_same a b c j first second = omega arith

-- a level with all its rows unchanged
pub still_rows : (tree : Tree) (a b : Rows) (p : ℕ) → SameRow a b p → ((j : ℕ) → Kid tree p j → SameRow a b j) → Still tree a b p
still_rows tree a b p self kids = record { kids = λ j kid. (kids j kid).kid; top = omega arith }
