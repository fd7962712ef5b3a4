-- Numbers as decimal text: no sign but a minus, no leading zero but 0 itself.
use Rattle.std.specs.Prelude.{ℕ, zero, suc, ◌+◌, ◌-◌, ◌*◌, ◌/◌, ◌%◌, Bool, true, false, cond, ◌&&◌, ◌||◌, List, [], ◌∷◌, ◌++◌, leb, ltb, eqb, length, ℤ, pos, negsuc, neg_ℤ}

-- the digit 0; the others follow it up to the digit 9
abbrev pub digit_zero : ℕ
digit_zero = 48

abbrev pub digit_nine : ℕ
digit_nine = 57

abbrev pub minus : ℕ
minus = 45

-- the digits of a number, of which it has at most so many
unfoldable pub digits : ℕ → ℕ → List ℕ
digits zero n = []
digits (suc most) n = cond (ltb n 10) ((digit_zero + n) ∷ []) (digits most (n / 10) ++ (digit_zero + n % 10) ∷ [])

-- a number of 64 bits has at most 20
unfoldable pub decimal : ℕ → List ℕ
decimal n = digits 20 n

unfoldable pub signed : ℤ → List ℕ
signed (pos n) = decimal n
signed (negsuc n) = minus ∷ decimal (suc n)

-- ── what a text is as a number ──

-- a number with these digits after it
unfoldable pub number_from : ℕ → List ℕ → ℕ
number_from n [] = n
number_from n (byte ∷ bytes) = number_from (n * 10 + (byte - digit_zero)) bytes

-- the number that these digits are
unfoldable pub number_in : List ℕ → ℕ
number_in bytes = number_from 0 bytes

-- a minus first makes it negative
unfoldable pub signed_in : List ℕ → ℤ
signed_in [] = pos 0
signed_in (byte ∷ bytes) = cond (eqb byte minus) (neg_ℤ (pos (number_in bytes))) (pos (number_in (byte ∷ bytes)))

unfoldable pub digits_alone : List ℕ → Bool
digits_alone [] = true
digits_alone (byte ∷ bytes) = (leb digit_zero byte && leb byte digit_nine) && digits_alone bytes

-- one digit or more, digits alone, the first not 0 unless it is the only one
unfoldable pub canonical : List ℕ → Bool
canonical [] = false
canonical (byte ∷ bytes) = digits_alone (byte ∷ bytes) && (eqb (length bytes) 0 || ltb digit_zero byte)
