-- A bit that is not set is set by adding its power of two, and no other bit moves.
-- Assumes nothing.
use Prim.Native.Nat.{ℕ, zero, suc, ◌+◌, ◌*◌, ◌/◌, ◌%◌, ◌^◌, ◌<◌}
use mathlib.Core.Path.{◌≡◌, refl, sym, ap, ◌∙◌}
use mathlib.Core.Logic.{◌≢◌}
use mathlib.Core.Bool.{false, ◌||◌, or-true}
use mathlib.Core.List.{List}
use native.Mathlib.Decide.{ℕ_discrete}
use native.Mathlib.Nat.{pow-suc, one-mul}
use native.Mathlib.Numerals.{one-add}
use native.Mathlib.Omega.{arith}
use borrow.Author.Tests.{eq-eqb, ne_eqb, eqb-false}
use lib.Dec.{eqb, lit<}
use lib.ListN.{length, get_or, set}
use lib.Pow.{shr-shr, shl_exact}
use lib.Seq.{get_or-set_same, get_or-set_other}
use Rattle.soundness.specs.Bits.{word_bits, bit, met}
use Rattle.soundness.proofs.Alls.{or_false}

-- ── one word ──

-- the bit as the machine finds it
pub bit_shifted : (word k : ℕ) → bit word k ≡ word / 2 ^ k % 2
unfolding bit
bit_shifted word zero = omega arith
bit_shifted word (suc k) = bit_shifted (word / 2) k ∙ ap (λ (x : ℕ). x % 2) (shr-shr word 1 k ∙ ap (λ (x : ℕ). word / 2 ^ x) (one-add k))

-- the power as the machine has it
pub one_shifted : (k : ℕ) → k < word_bits → 1 * 2 ^ k % 2 ^ 64 ≡ 2 ^ k
one_shifted k few = shl_exact {a = 1} 1 k 64 (lit< tt) (omega arith) ∙ one-mul (2 ^ k)

half : (word k : ℕ) → (word + 2 ^ suc k) / 2 ≡ word / 2 + 2 ^ k
half word k = let twice = pow-suc 2 k in omega arith

odd : (word k : ℕ) → (word + 2 ^ suc k) % 2 ≡ word % 2
odd word k = let twice = pow-suc 2 k in omega arith

bit_few : (word k : ℕ) → bit word k < 2
unfolding bit
bit_few word zero = omega arith
bit_few word (suc k) = bit_few (word / 2) k

bit_same : (word k : ℕ) → bit word k ≡ 0 → bit (word + 2 ^ k) k ≡ 1
unfolding bit
bit_same word zero unset = omega arith
bit_same word (suc k) unset = rw (half word k) (bit_same (word / 2) k unset)

bit_other : (word k j : ℕ) → bit word k ≡ 0 → k ≢ j → bit (word + 2 ^ k) j ≡ bit word j
unfolding bit
bit_other word zero zero unset other = absurd (other refl)
bit_other word zero (suc j) unset other = ap (λ (x : ℕ). bit x j) (omega arith)
bit_other word (suc k) zero unset other = odd word k
bit_other word (suc k) (suc j) unset other = rw (half word k) (bit_other (word / 2) k j unset (λ e. other (ap suc e)))

-- what is added fits
pub bit_fits : (word k m : ℕ) → word < 2 ^ m → k < m → bit word k ≡ 0 → word + 2 ^ k < 2 ^ m
unfolding bit
bit_fits word k zero small inside unset = absurd (omega arith)
bit_fits word zero (suc m) small inside unset = let twice = pow-suc 2 m in omega arith
bit_fits word (suc k) (suc m) small inside unset =
    let twice = pow-suc 2 m in
    let twice_k = pow-suc 2 k in
    let halved = bit_fits (word / 2) k m (omega arith) (omega arith) unset in
    omega arith

-- ── the table ──

-- an identifier that was not met has its bit unset
pub unmet : (table : List ℕ) (x : ℕ) → met table x ≡ false → bit (get_or table (x / word_bits) 0) (x % word_bits) ≡ 0
unfolding met
unmet table x e =
    let few = bit_few (get_or table (x / word_bits) 0) (x % word_bits) in
    let unset = eqb-false (bit (get_or table (x / word_bits) 0) (x % word_bits)) 1 e in
    omega arith

-- the table once x is met
abbrev with_met : List ℕ → ℕ → List ℕ
with_met table x = set table (x / word_bits) (get_or table (x / word_bits) 0 + 2 ^ (x % word_bits))

met_here : (table : List ℕ) (x y : ℕ) → x / word_bits < length table → bit (get_or table (x / word_bits) 0) (x % word_bits) ≡ 0
    → x / word_bits ≡ y / word_bits → Dec (x % word_bits ≡ y % word_bits) → met (with_met table x) y ≡ (met table y || eqb x y)
unfolding met
met_here table x y inside unset same (yes alike) =
    let word = get_or table (x / word_bits) 0 in
    let set_bit = bit_same word (x % word_bits) unset in
    rw (
      ← same,
      ← alike,
      get_or-set_same table (x / word_bits) (word + 2 ^ (x % word_bits)) 0 inside,
      set_bit,
      eq-eqb x y (omega arith),
    )
    (sym (or-true (eqb (bit word (x % word_bits)) 1)))
met_here table x y inside unset same (no apart) =
    let word = get_or table (x / word_bits) 0 in
    rw (
      ← same,
      get_or-set_same table (x / word_bits) (word + 2 ^ (x % word_bits)) 0 inside,
      bit_other word (x % word_bits) (y % word_bits) unset apart,
      ne_eqb x y (λ e. apart (ap (λ (n : ℕ). n % word_bits) e)),
    )
    (sym (or_false (eqb (bit word (y % word_bits)) 1)))

met_elsewhere : (table : List ℕ) (x y : ℕ) → x / word_bits ≢ y / word_bits → met (with_met table x) y ≡ (met table y || eqb x y)
unfolding met
met_elsewhere table x y other =
    rw (
      get_or-set_other table (x / word_bits) (y / word_bits) (get_or table (x / word_bits) 0 + 2 ^ (x % word_bits)) 0 (λ e. other (sym e)),
      ne_eqb x y (λ e. other (ap (λ (n : ℕ). n / word_bits) e)),
    )
    (sym (or_false (eqb (bit (get_or table (y / word_bits) 0) (y % word_bits)) 1)))

pub met_more : (table : List ℕ) (x : ℕ) → x / word_bits < length table → bit (get_or table (x / word_bits) 0) (x % word_bits) ≡ 0
    → (y : ℕ) → met (set table (x / word_bits) (get_or table (x / word_bits) 0 + 2 ^ (x % word_bits))) y ≡ (met table y || eqb x y)
met_more table x inside unset y = go (ℕ_discrete (x / word_bits) (y / word_bits))
  where
    go : Dec (x / word_bits ≡ y / word_bits) → met (with_met table x) y ≡ (met table y || eqb x y)
    go (yes same) = met_here table x y inside unset same (ℕ_discrete (x % word_bits) (y % word_bits))
    go (no other) = met_elsewhere table x y other
