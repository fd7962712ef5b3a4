-- Which rows have the head of one of their children, one row more at a time.
-- Assumes nothing.
use Prim.Native.Nat.{ℕ, suc, ◌+◌, ◌<◌}
use mathlib.Core.Path.{◌≡◌, refl, sym, ap, ◌∙◌}
use mathlib.Core.Bool.{Bool, true, false, ◌&&◌, ◌||◌}
use mathlib.Core.List.{List}
use native.Mathlib.Decide.{ℕ_discrete}
use native.Mathlib.Numerals.{add-one}
use native.Mathlib.Omega.{arith}
use borrow.Author.Tests.{eq-eqb, ne_eqb}
use lib.Dec.{ltb}
use lib.ListN.{length, get_or, set, get_or-replicate, replicate}
use lib.Seq.{get_or-set_same, get_or-set_other}
use Rattle.input.specs.Limits.{most_rows}
use Rattle.input.specs.Classes.{Tree, parent, child}
use Rattle.rules.specs.Box.{Rows, head, head_length, head_class, has_head}
use Rattle.live_rules.specs.Soundness.{any, headed, took_child}
use Rattle.holding.specs.Row.{same_head, passed_on}
use Rattle.holding.specs.Rows.{Matches}

-- ── one row ──

module _ (tree : Tree) (rows : Rows) (t : ℕ) where
  -- its parent has its head, or not
  own_parent :
      took_child tree rows (parent tree t) t
      ≡ passed_on t (head rows t) (head_length rows t) (head_class rows t) (head rows (parent tree t)) (head_length rows (parent tree t))
      (head_class rows (parent tree t))
  unfolding took_child child has_head headed passed_on same_head
  own_parent = rw (eq-eqb (parent tree t) (parent tree t) refl) (go (ltb 0 t) _)
    where
      go : (a b : Bool) → ((a && true) && b) ≡ (a && b)
      go true b = refl
      go false b = refl

  -- nobody else has it of this row
  other_parent : (p : ℕ) → (parent tree t ≡ p → ⊥) → took_child tree rows p t ≡ false
  unfolding took_child child
  other_parent p other = rw (ne_eqb (parent tree t) p other) (go (ltb 0 t) _)
    where
      go : (a b : Bool) → ((a && false) && b) ≡ false
      go true b = refl
      go false b = refl

or_false : (a : Bool) → a ≡ (a || false)
or_false true = refl
or_false false = refl

module _ (tree : Tree) (rows : Rows) (t : ℕ) (marks : List Bool) (v : Bool) where
  marked :
      (p : ℕ) → length marks ≡ most_rows → parent tree t < most_rows
      → v
      ≡ (get_or marks (parent tree t) false
      || passed_on t (head rows t) (head_length rows t) (head_class rows t) (head rows (parent tree t)) (head_length rows (parent tree t))
      (head_class rows (parent tree t)))
      → ((q : ℕ) → q < most_rows → get_or marks q false ≡ any t (took_child tree rows q)) → p < most_rows → Dec (parent tree t ≡ p)
      → get_or (set marks (parent tree t) v) p false ≡ any (suc t) (took_child tree rows p)
  unfolding any
  marked p long inside new before below (yes same) =
      ap (λ (q : ℕ). get_or (set marks (parent tree t) v) q false) (sym same)
      ∙ get_or-set_same marks (parent tree t) v false (omega arith)
      ∙ new
      ∙ rw (before (parent tree t) inside, ← own_parent tree rows t)
      (ap (λ (q : ℕ). any t (took_child tree rows q) || took_child tree rows q t) same)
  marked p long inside new before below (no other) =
      get_or-set_other marks (parent tree t) p v false (λ e. other (sym e))
      ∙ before p below
      ∙ or_false (any t (took_child tree rows p))
      ∙ ap (λ (b : Bool). any t (took_child tree rows p) || b) (sym (other_parent tree rows t p other))

-- ── all rows passed ──

pub matches_none : (parents heads sizes classes : List ℕ) → Matches parents heads sizes classes 0 (replicate most_rows false)
unfolding any
matches_none parents heads sizes classes tree rows e1 e2 e3 e4 p below = get_or-replicate {A = Bool} most_rows p false false below

pub matches_more :
    (parents heads sizes classes : List ℕ) (t : ℕ) (marks : List Bool) (j : ℕ) (v : Bool) → length marks ≡ most_rows
    → Matches parents heads sizes classes t marks → j < most_rows → j ≡ get_or parents t 0
    → v
    ≡ (get_or marks j false
    || passed_on t (get_or heads t 0) (get_or sizes t 0) (get_or classes t 0) (get_or heads j 0) (get_or sizes j 0) (get_or classes j 0))
    → Matches parents heads sizes classes (t + 1) (set marks j v)
matches_more parents heads sizes classes t marks j v long before inside own new tree rows e1 e2 e3 e4 p below =
    let same : j ≡ parent tree t = own ∙ ap (λ (l : List ℕ). get_or l t 0) (sym e1) in
    rw (add-one t, same)
    (marked tree rows t marks v p long (rw same at inside) (rw (same, ← e2, ← e3, ← e4) at new) (before tree rows e1 e2 e3 e4) below
    (ℕ_discrete (parent tree t) p))
