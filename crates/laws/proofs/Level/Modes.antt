-- A row's children as its level sees them: their shares, and the mode that each is in.
-- Assumes nothing.
use Prim.Native.Nat.{ℕ, zero, suc, ◌+◌, ◌<◌}
use mathlib.Core.Path.{◌≡◌, refl, subst}
use mathlib.Core.Logic.{◌≢◌}
use mathlib.Core.Bool.{Bool, true, false, cond}
use native.Mathlib.Omega.{arith}
use lib.Dec.{eqb}
use borrow.Author.Tests.{eq-eqb, ne_eqb, eqb-true, eqb-false}
use Rattle.input.specs.Limits.{whole}
use Rattle.input.specs.Classes.{Tree, share, child, children_share}
use Rattle.rules.specs.Box.{Rows, start, finish, head, has_head}
use Rattle.laws.specs.Sound.{Sound, Kid, Inner}
use Rattle.laws.specs.Moves.{SameKid}
use Rattle.laws.specs.Level.{Mode, idle, waits, taken, sum}
use Rattle.laws.specs.Kept.{weight, spare, mode}
use Rattle.laws.proofs.Level.Heads.{has_true, some_has, none_has}
use Rattle.laws.proofs.Tree.Paths.{kid_child, child_kid}

-- ── shares ──

weights_sum : (tree : Tree) (p n : ℕ) → sum n (weight tree p) ≡ children_share tree p n
unfolding sum weight children_share
weights_sum tree p zero = refl
weights_sum tree p (suc n) = rw (weights_sum tree p n)

-- the children's shares and the spare make the whole
pub shares_whole : (tree : Tree) → Sound tree → (p : ℕ) → Inner tree p → sum tree.rows (weight tree p) + spare tree p ≡ whole
unfolding spare
shares_whole tree sound p inner =
    let children = weights_sum tree p tree.rows in
    let fit = sound.shares_fit p inner.inside in
    omega arith

pub weight_kid : (tree : Tree) (p j : ℕ) → Kid tree p j → weight tree p j ≡ share tree j
unfolding weight
weight_kid tree p j kid = rw (kid_child tree p j kid)

-- ── modes ──

-- the root is nobody's child, so that 0 stands for no taken child
pub not_root : {tree : Tree} {p j : ℕ} → Kid tree p j → j ≢ 0
not_root kid at =
    let positive = kid.positive in
    omega arith

-- a row that waits is a child with a head that is not taken
pub record Waiting (tree : Tree) (a : Rows) (p t j s f : ℕ) : Type 0 where
  pub kid : Kid tree p j
  pub other : j ≢ t
  pub has : head a j ≢ 0
  pub starts : s ≡ start a j
  pub ends : f ≡ finish a j

-- what a row's mode says of it
abbrev Says : Tree → Rows → ℕ → ℕ → ℕ → Mode → Type 0
Says tree a p t j (idle f) = Unit
Says tree a p t j (waits s f) = Waiting tree a p t j s f
Says tree a p t j (taken f) = Kid tree p j × (j ≡ t)

module _ (tree : Tree) (a : Rows) (p t j : ℕ) where
  pub mode_taken : Kid tree p j → j ≡ t → mode tree a p t j ≡ taken (finish a j)
  unfolding mode
  mode_taken kid is = rw (kid_child tree p j kid, eq-eqb j t is)

  pub mode_waits : Kid tree p j → j ≢ t → head a j ≢ 0 → mode tree a p t j ≡ waits (start a j) (finish a j)
  unfolding mode
  mode_waits kid other has = rw (kid_child tree p j kid, ne_eqb j t other, some_has a j has)

  pub mode_idle : Kid tree p j → j ≢ t → head a j ≡ 0 → mode tree a p t j ≡ idle (finish a j)
  unfolding mode
  mode_idle kid other none = rw (kid_child tree p j kid, ne_eqb j t other, none_has a j none)

  pub mode_says : j < tree.rows → (x : Mode) → mode tree a p t j ≡ x → Says tree a p t j x
  unfolding mode
  mode_says inside x is = subst (λ (y : Mode). Says tree a p t j y) is (go (child tree p j) (eqb j t) (has_head a j) refl refl refl)
    where
      go :
          (is_child is_taken has : Bool) → child tree p j ≡ is_child → eqb j t ≡ is_taken → has_head a j ≡ has
          → Says tree a p t j (cond is_child (cond is_taken (taken (finish a j)) (cond has (waits (start a j) (finish a j)) (idle (finish a j)))) (idle 0))
      go true true has c e h = (child_kid tree p j inside c, eqb-true j t e)
      go true false true c e h =
          record {
            kid = child_kid tree p j inside c;
            other = eqb-false j t e;
            has = has_true a j h;
            starts = refl;
            ends = refl;
          }
      go true false false c e h = tt
      go false is_taken has c e h = tt

-- a row that looks the same, and is taken in both or in neither, is in the same mode
pub mode_same :
    (tree : Tree) (a b : Rows) (p t u j : ℕ) → j < tree.rows → (Kid tree p j → (eqb j u ≡ eqb j t) × SameKid a b j)
    → mode tree b p u j ≡ mode tree a p t j
unfolding mode has_head
mode_same tree a b p t u j inside same = go (child tree p j) refl
  where
    go : (x : Bool) → child tree p j ≡ x → mode tree b p u j ≡ mode tree a p t j
    go true is_child =
        let both = same (child_kid tree p j inside is_child) in
        let kept = both.1 in
        rw (is_child, both.0, kept.start_same, kept.finish_same, kept.head_same.packet_same)
    go false is_child = rw is_child
