-- What rows hold: a row and the sum over its children change together where one packet comes or goes.
-- Assumes nothing.
use Prim.Native.Nat.{ℕ, zero, suc, ◌+◌, ◌≤◌, ◌<◌}
use mathlib.Core.Path.{◌≡◌, refl, sym, ap, ◌∙◌}
use mathlib.Core.Logic.{◌≢◌}
use mathlib.Core.Bool.{Bool, true, false, cond}
use native.Mathlib.Decide.{ℕ_discrete}
use native.Mathlib.Omega.{arith}
use Rattle.input.specs.Classes.{Tree, child}
use Rattle.rules.specs.Box.{Box, held_by}
use Rattle.rules.specs.Promise.{within}
use Rattle.laws.specs.Sound.{Sound, Kid, Inner, Sender}
use Rattle.laws.specs.Level.{sum}
use Rattle.laws.specs.Kept.{held_below}
use Rattle.laws.proofs.Tree.Paths.{kid_child, child_kid, self_within}
use Rattle.laws.proofs.Tree.Depths.{kid_off, sibling_off, sender_off, inner_below}
use Rattle.laws.proofs.Level.Balance.{sum_same}

-- ── sums ──

pub sum_none : (n : ℕ) (f : ℕ → ℕ) → ((j : ℕ) → j < n → f j ≡ 0) → sum n f ≡ 0
unfolding sum
sum_none zero f none = refl
sum_none (suc n) f none =
    let earlier = sum_none n f (λ j below. none j (omega arith)) in
    let last = none n (omega arith) in
    omega arith

pub sum_term : (n : ℕ) (f : ℕ → ℕ) (j : ℕ) → j < n → f j ≤ sum n f
unfolding sum
sum_term zero f j inside = absurd (omega arith)
sum_term (suc n) f j inside = go (ℕ_discrete j n) (sum_term n f j)
  where
    go : Dec (j ≡ n) → (j < n → f j ≤ sum n f) → f j ≤ sum n f + f n
    go (yes same) earlier = let last = ap f same in omega arith
    go (no other) earlier = let before = earlier (omega arith) in omega arith

-- two functions that differ by one at one place
sum_more :
    (n : ℕ) (f g : ℕ → ℕ) (c : ℕ) → c < n → ((j : ℕ) → j < n → j ≢ c → f j ≡ g j) → f c ≡ suc (g c) → sum n f ≡ suc (sum n g)
unfolding sum
sum_more zero f g c inside others more = absurd (omega arith)
sum_more (suc n) f g c inside others more = go (ℕ_discrete c n) (sum_more n f g c)
  where
    go :
        Dec (c ≡ n) → (c < n → ((j : ℕ) → j < n → j ≢ c → f j ≡ g j) → f c ≡ suc (g c) → sum n f ≡ suc (sum n g))
        → sum n f + f n ≡ suc (sum n g + g n)
    go (yes same) earlier =
        let before = sum_same n f g (λ j below. others j (omega arith) (omega arith)) in
        let last = ap f same in
        let last' = ap g same in
        omega arith
    go (no other) earlier =
        let before = earlier (omega arith) (λ j below apart. others j (omega arith) apart) more in
        let last = others n (omega arith) (λ same. other (sym same)) in
        omega arith

-- ── one packet more ──

-- of two boxes the second holds one packet of class k more
abbrev pub OneMore : Tree → ℕ → Box → Box → Type 0
OneMore tree k less more = (r : ℕ) → r < tree.rows → held_by more r ≡ cond (within tree r k) (suc (held_by less r)) (held_by less r)

module _ (tree : Tree) (sound : Sound tree) (k : ℕ) (sender : Sender tree k) (less more : Box) (one_more : OneMore tree k less more) where
  -- the rows off the path to k hold as many
  more_off : (r : ℕ) → r < tree.rows → within tree r k ≡ false → held_by more r ≡ held_by less r
  more_off r inside off = one_more r inside ∙ ap (λ (b : Bool). cond b (suc (held_by less r)) (held_by less r)) off

  more_on : (r : ℕ) → r < tree.rows → within tree r k ≡ true → held_by more r ≡ suc (held_by less r)
  more_on r inside on = one_more r inside ∙ ap (λ (b : Bool). cond b (suc (held_by less r)) (held_by less r)) on

  pub more_own : held_by more k ≡ suc (held_by less k)
  more_own = more_on k sender.inside (self_within tree sound k)

  pub more_other : (j : ℕ) → Sender tree j → j ≢ k → held_by more j ≡ held_by less j
  more_other j other apart = more_off j other.inside (sender_off tree sound k sender.inside j other apart)

  off_path :
      (p j : ℕ) → j < tree.rows → (Kid tree p j → within tree j k ≡ false)
      → cond (child tree p j) (held_by more j) 0 ≡ cond (child tree p j) (held_by less j) 0
  off_path p j inside off = go (child tree p j) refl
    where
      go : (b : Bool) → child tree p j ≡ b → cond b (held_by more j) 0 ≡ cond b (held_by less j) 0
      go true is = more_off j inside (off (child_kid tree p j inside is))
      go false is = refl

  -- what p's children hold, together
  below_more : (p : ℕ) → Inner tree p → held_below tree more p ≡ cond (within tree p k) (suc (held_below tree less p)) (held_below tree less p)
  unfolding held_below
  below_more p inner = go (within tree p k) refl
    where
      all : Box → ℕ → ℕ
      all box j = cond (child tree p j) (held_by box j) 0

      through : (c : ℕ) → Kid tree p c → within tree c k ≡ true → sum tree.rows (all more) ≡ suc (sum tree.rows (all less))
      through c kid on =
          sum_more tree.rows (all more) (all less) c kid.inside
          (λ j inside apart. off_path p j inside (λ other. sibling_off tree sound k sender.inside p c j kid on other apart))
          (rw (kid_child tree p c kid) (more_on c kid.inside on))

      go :
          (b : Bool) → within tree p k ≡ b
          → sum tree.rows (all more) ≡ cond b (suc (sum tree.rows (all less))) (sum tree.rows (all less))
      go true on =
          let (c, kid, on_c) = inner_below tree sound k p sender inner on in
          through c kid on_c
      go false off =
          sum_same tree.rows (all more) (all less)
          (λ j inside. off_path p j inside (λ kid. kid_off tree sound k sender.inside p j kid off))

  pub more_below : (p : ℕ) → Inner tree p → held_by less p ≡ held_below tree less p → held_by more p ≡ held_below tree more p
  more_below p inner before =
      one_more p inner.inside ∙ ap (λ (n : ℕ). cond (within tree p k) (suc n) n) before ∙ sym (below_more p inner)

  pub less_below : (p : ℕ) → Inner tree p → held_by more p ≡ held_below tree more p → held_by less p ≡ held_below tree less p
  less_below p inner before = go (within tree p k) (sym (one_more p inner.inside) ∙ before ∙ below_more p inner)
    where
      go :
          (b : Bool) → cond b (suc (held_by less p)) (held_by less p) ≡ cond b (suc (held_below tree less p)) (held_below tree less p)
          → held_by less p ≡ held_below tree less p
      go true same = omega arith
      go false same = same
