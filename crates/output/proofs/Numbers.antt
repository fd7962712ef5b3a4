-- Numbers as text and back: one digit more, how long a text is, its form, and that each of number and text is made of the other.
-- Assumes nothing.
use Prim.Native.Nat.{ℕ, zero, suc, ◌+◌, ◌-◌, ◌*◌, ◌/◌, ◌%◌, ◌^◌, ◌≤◌, ◌<◌}
use mathlib.Core.Path.{◌≡◌, refl, sym, ◌∙◌, ap}
use mathlib.Core.Bool.{Bool, true, false, cond, ◌&&◌, ◌||◌}
use mathlib.Core.List.{List, [], ◌∷◌, ◌++◌, append_assoc, append-nil}
use mathlib.Mathlib.Data.Bool.Basic.{and-eq-true-eq-eq-true-and-eq-true as and-is-true}
use native.Mathlib.Nat.{pow-suc}
use native.Mathlib.Omega.{arith}
use lib.Dec.{leb, ltb, eqb, eqb-suc-zero}
use lib.ListN.{length, length-append}
use lib.IntN.{ℤ, pos, negsuc, nat_abs}
use lib.Signed.{lt_z}
use mir.Syntax.{w64}
use mir.Val.{SFits}
use borrow.Author.Tests.{ltb-true, ltb-false, leb-true, lt-ltb, le-ltb, le-leb, ne_eqb}
use Rattle.output.specs.Numbers.{digit_zero, digit_nine, minus, digits, decimal, signed, number_from, number_in, signed_in, digits_alone, canonical}

-- ── one digit more ──

-- a number that is short enough has the same digits where more are allowed
one_more : (k n : ℕ) → n < 10 ^ suc k → digits (suc (suc k)) n ≡ digits (suc k) n
unfolding digits
one_more zero n small = rw (lt-ltb n 10 (omega arith))
one_more (suc k) n small =
    let more = pow-suc 10 (suc k) in
    rw (one_more k (n / 10) (omega arith))

pub digits_one : (d : ℕ) → d < 10 → decimal d ≡ (digit_zero + d) ∷ []
unfolding decimal digits
digits_one d small = rw (lt-ltb d 10 small)

last_split : (k n : ℕ) → 10 ≤ n → digits (suc k) n ≡ digits k (n / 10) ++ (digit_zero + n % 10) ∷ []
unfolding digits
last_split k n large = rw (le-ltb n 10 large)

pub last_digit : (n : ℕ) → 10 ≤ n → n < 10 ^ 20 → decimal n ≡ decimal (n / 10) ++ (digit_zero + n % 10) ∷ []
unfolding decimal
last_digit n large room = last_split 19 n large ∙ rw (← one_more 18 (n / 10) (omega arith))

pub digits_more : (n d : ℕ) → 0 < n → d < 10 → n * 10 + d < 10 ^ 20 → decimal (n * 10 + d) ≡ decimal n ++ (digit_zero + d) ∷ []
digits_more n d some small room =
    let tens : (n * 10 + d) / 10 ≡ n = omega arith in
    let ones : (n * 10 + d) % 10 ≡ d = omega arith in
    last_digit (n * 10 + d) (omega arith) room ∙ rw (tens, ones)

-- ── how long ──

digits_most : (fuel n k : ℕ) → n < 10 ^ k → 0 < k → length (digits fuel n) ≤ k
unfolding digits
digits_most zero n k small some = omega arith
digits_most (suc fuel) n k small some = go (ltb n 10) refl k small some (digits_most fuel (n / 10))
  where
    go : (b : Bool) → ltb n 10 ≡ b → (k : ℕ) → n < 10 ^ k → 0 < k → ((j : ℕ) → n / 10 < 10 ^ j → 0 < j → length (digits fuel (n / 10)) ≤ j)
        → length (cond b ((digit_zero + n) ∷ []) (digits fuel (n / 10) ++ (digit_zero + n % 10) ∷ [])) ≤ k
    go true e k small some rest = some
    go false e zero small some rest = absurd (omega arith)
    go false e (suc zero) small some rest = let large = ltb-false n 10 e in absurd (omega arith)
    go false e (suc (suc k)) small some rest =
        let more = pow-suc 10 (suc k) in
        let before = rest (suc k) (omega arith) (omega arith) in
        rw length-append (omega arith)

pub decimal_most : (n k : ℕ) → n < 10 ^ k → 0 < k → k ≤ 20 → length (decimal n) ≤ k
unfolding decimal
decimal_most n k small some few = digits_most 20 n k small some

either : (most : ℕ) (l : List ℕ) (one : Bool) (n d : ℕ) → length l ≤ most → length (cond one ((digit_zero + n) ∷ []) (l ++ d ∷ [])) ≤ suc most
either most l true n d short = omega arith
either most l false n d short = simp length-append (omega arith)

digits_length : (most n : ℕ) → length (digits most n) ≤ most
unfolding digits
digits_length zero n = omega arith
digits_length (suc most) n = either most (digits most (n / 10)) (ltb n 10) n (digit_zero + n % 10) (digits_length most (n / 10))

-- of any number whatever
pub decimal_length : (n : ℕ) → length (decimal n) ≤ 20
unfolding decimal
decimal_length n = digits_length 20 n

pub signed_length : (n : ℤ) → length (signed n) ≤ 21
unfolding signed
signed_length (pos n) = omega (arith, decimal_length n)
signed_length (negsuc n) = omega (arith, decimal_length (suc n))

-- ── the number of a text ──

from_append : (n : ℕ) (bytes more : List ℕ) → number_from n (bytes ++ more) ≡ number_from (number_from n bytes) more
unfolding number_from
from_append n [] more = refl
from_append n (byte ∷ bytes) more = from_append (n * 10 + (byte - digit_zero)) bytes more

digits_same : (k n : ℕ) → n < 10 ^ k → number_in (digits k n) ≡ n
unfolding digits number_in number_from
digits_same zero n small = omega arith
digits_same (suc k) n small = go (ltb n 10) refl (digits_same k (n / 10) (let more = pow-suc 10 k in omega arith))
  where
    go : (b : Bool) → ltb n 10 ≡ b → number_in (digits k (n / 10)) ≡ n / 10
        → number_in (cond b ((digit_zero + n) ∷ []) (digits k (n / 10) ++ (digit_zero + n % 10) ∷ [])) ≡ n
    go true e before = omega arith
    go false e before = from_append 0 (digits k (n / 10)) ((digit_zero + n % 10) ∷ []) ∙ omega arith

pub number_same : (n : ℕ) → n < 2 ^ 64 → number_in (decimal n) ≡ n
unfolding decimal
number_same n small = digits_same 20 n (omega arith)

-- ── the form of a text ──

-- digits alone, one or more, and the first is not 0
leads : List ℕ → Bool
leads [] = false
leads (byte ∷ bytes) = digits_alone (byte ∷ bytes) && ltb digit_zero byte

pub is_digit : (byte : ℕ) → digit_zero ≤ byte → byte ≤ digit_nine → leb digit_zero byte && leb byte digit_nine ≡ true
is_digit byte low high = rw (le-leb digit_zero byte low, le-leb byte digit_nine high)

alone_more : (bytes : List ℕ) (byte : ℕ) → digit_zero ≤ byte → byte ≤ digit_nine → digits_alone bytes ≡ true → digits_alone (bytes ++ byte ∷ []) ≡ true
unfolding digits_alone
alone_more [] byte low high all = rw (is_digit byte low high)
alone_more (b ∷ bytes) byte low high all =
    let here = (and-is-true (leb digit_zero b && leb b digit_nine) (digits_alone bytes)).0 all in
    rw (here.0, alone_more bytes byte low high here.1)

leads_more : (bytes : List ℕ) (byte : ℕ) → digit_zero ≤ byte → byte ≤ digit_nine → leads bytes ≡ true → leads (bytes ++ byte ∷ []) ≡ true
unfolding leads
leads_more [] byte low high all = absurd (let z : ◌≡◌ {A = ℕ} 0 1 = cc in omega arith)
leads_more (b ∷ bytes) byte low high all =
    let here = (and-is-true (digits_alone (b ∷ bytes)) (ltb digit_zero b)).0 all in
    rw (alone_more (b ∷ bytes) byte low high here.0, here.1)

leads_digits : (k n : ℕ) → 0 < n → n < 10 ^ k → leads (digits k n) ≡ true
unfolding digits leads digits_alone
leads_digits zero n some small = absurd (omega arith)
leads_digits (suc k) n some small = go (ltb n 10) refl (leads_digits k (n / 10))
  where
    go : (b : Bool) → ltb n 10 ≡ b → (0 < n / 10 → n / 10 < 10 ^ k → leads (digits k (n / 10)) ≡ true)
        → leads (cond b ((digit_zero + n) ∷ []) (digits k (n / 10) ++ (digit_zero + n % 10) ∷ [])) ≡ true
    go true e before =
        let low = ltb-true n 10 e in
        rw (is_digit (digit_zero + n) (omega arith) (omega arith), lt-ltb digit_zero (digit_zero + n) (omega arith))
    go false e before =
        let high = ltb-false n 10 e in
        let more = pow-suc 10 k in
        leads_more (digits k (n / 10)) (digit_zero + n % 10) (omega arith) (omega arith) (before (omega arith) (omega arith))

leads_canonical : (bytes : List ℕ) → leads bytes ≡ true → canonical bytes ≡ true
unfolding leads canonical
leads_canonical [] e = e
leads_canonical (byte ∷ bytes) e =
    let here = (and-is-true (digits_alone (byte ∷ bytes)) (ltb digit_zero byte)).0 e in
    rw (here.0, here.1) (or_true (eqb (length bytes) 0))
  where
    or_true : (b : Bool) → true && (b || true) ≡ true
    or_true true = refl
    or_true false = refl

pub decimal_canonical : (n : ℕ) → n < 2 ^ 64 → canonical (decimal n) ≡ true
unfolding decimal canonical digits digits_alone
decimal_canonical zero small = refl
decimal_canonical (suc n) small = leads_canonical (digits 20 (suc n)) (leads_digits 20 (suc n) (omega arith) (omega arith))

-- ── the text of a number ──

from_least : (n : ℕ) (bytes : List ℕ) → n ≤ number_from n bytes
unfolding number_from
from_least n [] = omega arith
from_least n (byte ∷ bytes) = let rest = from_least (n * 10 + (byte - digit_zero)) bytes in omega arith

pub digit_range : (byte : ℕ) → leb digit_zero byte && leb byte digit_nine ≡ true → (digit_zero ≤ byte) × (byte ≤ digit_nine)
digit_range byte e =
    let here = (and-is-true (leb digit_zero byte) (leb byte digit_nine)).0 e in
    (leb-true digit_zero byte here.0, leb-true byte digit_nine here.1)

text_from : (n : ℕ) (bytes : List ℕ) → 0 < n → digits_alone bytes ≡ true → number_from n bytes < 2 ^ 64 → decimal (number_from n bytes) ≡ decimal n ++ bytes
unfolding number_from digits_alone
text_from n [] some all small = sym (append-nil (decimal n))
text_from n (byte ∷ bytes) some all small =
    let here = (and-is-true (leb digit_zero byte && leb byte digit_nine) (digits_alone bytes)).0 all in
    let range = digit_range byte here.0 in
    let least = from_least (n * 10 + (byte - digit_zero)) bytes in
    let same : digit_zero + (byte - digit_zero) ≡ byte = omega arith in
    text_from (n * 10 + (byte - digit_zero)) bytes (omega arith) here.1 small
    ∙ rw (digits_more n (byte - digit_zero) some (omega arith) (omega arith), same) (append_assoc (decimal n) (byte ∷ []) bytes)

pub text_same : (bytes : List ℕ) → canonical bytes ≡ true → number_in bytes < 2 ^ 64 → decimal (number_in bytes) ≡ bytes
unfolding canonical number_in number_from digits_alone
text_same [] form small = absurd (let z : ◌≡◌ {A = ℕ} 0 1 = cc in omega arith)
text_same (byte ∷ []) form small =
    let here = (and-is-true (leb digit_zero byte && leb byte digit_nine) true).0 ((and-is-true _ true).0 form).0 in
    let range = digit_range byte here.0 in
    let same : digit_zero + (0 * 10 + (byte - digit_zero)) ≡ byte = omega arith in
    digits_one (0 * 10 + (byte - digit_zero)) (omega arith) ∙ rw same
text_same (byte ∷ b ∷ bytes) form small =
    let here = (and-is-true (digits_alone (byte ∷ b ∷ bytes)) (ltb digit_zero byte)).0 (rw (eqb-suc-zero (length bytes)) at form) in
    let all = (and-is-true (leb digit_zero byte && leb byte digit_nine) (digits_alone (b ∷ bytes))).0 here.0 in
    let range = digit_range byte all.0 in
    let first = ltb-true digit_zero byte here.1 in
    let same : digit_zero + (0 * 10 + (byte - digit_zero)) ≡ byte = omega arith in
    text_from (0 * 10 + (byte - digit_zero)) (b ∷ bytes) (omega arith) all.1 small
    ∙ rw (digits_one (0 * 10 + (byte - digit_zero)) (omega arith), same)

-- ── signed numbers ──

pub below_zero : (n : ℤ) → lt_z n (pos 0) ≡ true → signed n ≡ minus ∷ decimal (nat_abs n)
unfolding signed
below_zero (pos n) below = absurd (omega (arith, ltb-true n 0 below))
below_zero (negsuc n) below = refl

pub not_below_zero : (n : ℤ) → lt_z n (pos 0) ≡ false → signed n ≡ decimal (nat_abs n)
unfolding signed
not_below_zero (pos n) left = refl
not_below_zero (negsuc n) left = let z : ◌≡◌ {A = ℕ} 0 1 = cc in absurd (omega arith)

-- digits do not begin with a minus
unsigned_in : (bytes : List ℕ) → canonical bytes ≡ true → signed_in bytes ≡ pos (number_in bytes)
unfolding canonical digits_alone signed_in
unsigned_in [] form = absurd (let z : ◌≡◌ {A = ℕ} 0 1 = cc in omega arith)
unsigned_in (byte ∷ bytes) form =
    let here = (and-is-true (digits_alone (byte ∷ bytes)) (eqb (length bytes) 0 || ltb digit_zero byte)).0 form in
    let range = digit_range byte ((and-is-true (leb digit_zero byte && leb byte digit_nine) (digits_alone bytes)).0 here.0).0 in
    rw (ne_eqb byte minus (λ e. omega arith))

pub signed_same : (z : ℤ) → SFits w64 z → signed_in (signed z) ≡ z
unfolding signed signed_in
signed_same (pos n) fit =
    let small = fit.sfits in
    unsigned_in (decimal n) (decimal_canonical n (omega arith)) ∙ ap pos (number_same n (omega arith))
signed_same (negsuc n) fit = let small = fit.sfits in rw (number_same (suc n) (omega arith))
