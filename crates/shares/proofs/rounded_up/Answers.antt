-- `shares::rounded_up` meets its contract: where something is left over the denominator is above 1, so one more fits.
-- Assumes nothing.
use Prim.Native.Nat.{ℕ, ◌+◌, ◌/◌, ◌%◌, ◌^◌, ◌≤◌, ◌<◌}
use mathlib.Core.Path.{◌≡◌}
use native.Mathlib.Nat.{mod-one, mul-le-mul_left, div-mul-le_self}
use native.Mathlib.Decide.{ℕ_discrete}
use native.Mathlib.Omega.{arith}
use borrow.Author.Rules.{rules}
use borrow.Author.Tests.{eq-eqb, ne_eqb}
use Rattle.input.specs.Shares.{rounded_up}
use Rattle.shares.proofs.rounded_up.Goals as goal

-- the numbers that a word holds are below this
abbrev limit : ℕ
limit = 2 ^ 64

one_more : (n d : ℕ) → n < limit → (d ≡ 0 → ⊥) → (n % d ≡ 0 → ⊥) → n / d + 1 < limit
one_more n d small some left = go (ℕ_discrete d 1)
  where
    go : Dec (d ≡ 1) → n / d + 1 < limit
    go (yes one) = absurd (left (rw one (mod-one n)))
    go (no more) =
        let two : 2 ≤ d = omega arith in
        let twice = mul-le-mul_left (n / d) two in
        let back = div-mul-le_self n d in
        omega arith

pub returns-then-denominator-eq0 : goal.returns-then-denominator-eq0
unfolding rounded_up
returns-then-denominator-eq0 c = rw (eq-eqb _ 0 c.if-denominator-eq0.true)

pub returns-then-numerator-denominator-eq0 : goal.returns-then-numerator-denominator-eq0
unfolding rounded_up
returns-then-numerator-denominator-eq0 c = rw (ne_eqb _ 0 c.if-denominator-eq0.false, eq-eqb _ 0 c.if-numerator-denominator-eq0.true) (omega arith)

pub overflow_add-result : goal.overflow_add-result
overflow_add-result c =
    record { fits = one_more c.args.numerator c.args.denominator (search rules) c.if-denominator-eq0.false c.if-numerator-denominator-eq0.false }

pub returns : goal.returns
unfolding rounded_up
returns c = rw (ne_eqb _ 0 c.if-denominator-eq0.false, ne_eqb _ 0 c.if-numerator-denominator-eq0.false)
