-- `heaps::comes_before` meets its contract: pairs are compared as the definition says.
-- Assumes nothing.
use Prim.Native.Nat.{ℕ, ◌<◌}
use mathlib.Core.Path.{◌≡◌, refl, sym, ◌∙◌}
use mathlib.Core.Bool.{Bool, true, false, cond, true≢false}
use native.Mathlib.Decide.{dec_lt}
use native.Mathlib.Omega.{arith}
use lib.Dec.{ltb, eqb}
use lib.ListN.{get_or}
use borrow.Author.Tests.{le-ltb, ne_eqb}
use Rattle.std.proofs.Common.{Some, Less, Equal, Greater}
use Rattle.std.specs.Ordering.{is_lt, is_some_and, partial_ordering_then}
use Rattle.heaps.specs.Order.{before}
use Rattle.heaps.proofs.comes_before.Goals as goal

less : (l e : Bool) → is_lt (cond l Less (cond e Equal Greater)) ≡ l
less true e = refl
less false true = refl
less false false = refl

pair_less : (l e m f : Bool) → (l ≡ true → e ≡ false)
    → is_some_and is_lt (partial_ordering_then (Some (cond l Less (cond e Equal Greater))) (Some (cond m Less (cond f Equal Greater)))) ≡ cond e m l
pair_less true true m f apart = absurd (true≢false (apart refl))
pair_less true false m f apart = refl
pair_less false true m f apart = less m f
pair_less false false m f apart = refl

apart : (a b : ℕ) → ltb a b ≡ true → eqb a b ≡ false
apart a b is = go (dec_lt a b)
  where
    go : Dec (a < b) → eqb a b ≡ false
    go (yes less) = ne_eqb a b (λ same. omega arith)
    go (no more) = absurd (true≢false (sym is ∙ le-ltb a b (omega arith)))

pub returns : goal.returns
unfolding before
returns c =
    let args = c.args in
    let key : ℕ → ℕ = λ x. get_or args.keys.now x 0 in
    let tie : ℕ → ℕ = λ x. get_or args.ties.now x 0 in
    c.lt.ensures
    ∙ pair_less (ltb (key args.x) (key args.y)) (eqb (key args.x) (key args.y)) (ltb (tie args.x) (tie args.y)) (eqb (tie args.x) (tie args.y)) (apart _ _)
