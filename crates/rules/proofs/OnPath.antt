-- A list changed along the path from a row up to the root, a row at a time: what remains of the change from the next row on is what
-- remained at this one. And the path goes by the tree's parents and depths alone.
-- Assumes nothing.
use Prim.Native.Nat.{ℕ, zero, suc, ◌-◌, ◌≤◌, ◌<◌}
use mathlib.Core.Path.{◌≡◌, refl, sym, ap, ◌∙◌}
use mathlib.Core.List.{List}
use native.Mathlib.Numerals.{sub-one}
use native.Mathlib.Omega.{arith}
use lib.ListN.{get_or, set}
use Rattle.input.specs.Classes.{Tree, parent, depth}
use Rattle.rules.specs.Steps.{on_path, along}

module _ (tree : Tree) (f : ℕ → ℕ → ℕ) (r : ℕ) (xs : List ℕ) where
  path_goes : (d : ℕ) → 0 < d → on_path d tree f r xs ≡ on_path (d - 1) tree f (parent tree r) (set xs r (f r (get_or xs r 0)))
  unfolding on_path
  path_goes zero some = absurd (omega arith)
  path_goes (suc d) some = rw sub-one

  path_ends : (d : ℕ) → d ≤ 0 → on_path d tree f r xs ≡ set xs r (f r (get_or xs r 0))
  unfolding on_path
  path_ends zero none = refl
  path_ends (suc d) none = absurd (omega arith)

-- what remains of the change by f to be done to xs, from row r at depth d on, is all that was to be done to xs₀ from row k on
pub record Remains (tree : Tree) (f : ℕ → ℕ → ℕ) (k : ℕ) (xs₀ : List ℕ) (d r : ℕ) (xs : List ℕ) : Type 0 where
  pub same : on_path d tree f r xs ≡ along tree f k xs₀

module _ {tree : Tree} {f : ℕ → ℕ → ℕ} {k : ℕ} {xs₀ : List ℕ} where
  pub remains_all : {d : ℕ} → d ≡ depth tree k → Remains tree f k xs₀ d k xs₀
  unfolding along
  remains_all deep = record { same = rw deep }

  pub remains_less : {d r s : ℕ} {xs ys : List ℕ} → 0 < d → s ≡ parent tree r → ys ≡ set xs r (f r (get_or xs r 0))
      → Remains tree f k xs₀ d r xs → Remains tree f k xs₀ (d - 1) s ys
  remains_less {d} {r} {s} {xs} {ys} some next stored remains =
      record { same = rw (next, stored, ← path_goes tree f r xs d some) remains.same }

  pub remains_last : {d r : ℕ} {xs ys : List ℕ} → d ≤ 0 → ys ≡ set xs r (f r (get_or xs r 0))
      → Remains tree f k xs₀ d r xs → ys ≡ along tree f k xs₀
  remains_last {d} {r} {xs} {ys} none stored remains = stored ∙ sym (path_ends tree f r xs d none) ∙ remains.same

-- ── the parents and depths alone ──

on_path_by : (d : ℕ) (tree other : Tree) → tree.parents ≡ other.parents → (f : ℕ → ℕ → ℕ) (r : ℕ) (xs : List ℕ)
    → on_path d tree f r xs ≡ on_path d other f r xs
unfolding on_path
on_path_by zero tree other parents f r xs = refl
on_path_by (suc d) tree other parents f r xs =
    let next = set xs r (f r (get_or xs r 0)) in
    ap (λ (ps : List ℕ). on_path d tree f (get_or ps r 0) next) parents ∙ on_path_by d tree other parents f (parent other r) next

pub along_by : (tree other : Tree) → tree.parents ≡ other.parents → tree.depths ≡ other.depths
    → (f : ℕ → ℕ → ℕ) (k : ℕ) (xs : List ℕ) → along tree f k xs ≡ along other f k xs
unfolding along
along_by tree other parents depths f k xs =
    ap (λ (ds : List ℕ). on_path (get_or ds k 0) tree f k xs) depths ∙ on_path_by (depth other k) tree other parents f k xs
