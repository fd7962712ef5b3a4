-- A field by all its bytes: digits alone, one or more, are the number that they spell, or too large a one; anything else is no number.
-- Assumes nothing.
use Prim.Native.Nat.{ℕ, ◌+◌, ◌-◌, ◌*◌, ◌≤◌}
use mathlib.Core.Path.{◌≡◌, refl, ap}
use mathlib.Core.Bool.{Bool, true, false, ◌&&◌}
use mathlib.Core.List.{List, [], ◌∷◌}
use mathlib.Mathlib.Data.Bool.Basic.{and-eq-true-eq-eq-true-and-eq-true as and-is-true}
use native.Mathlib.Omega.{arith}
use lib.Dec.{leb}
use borrow.Author.Tests.{leb-true, leb-false, le-leb, lt-leb}
use Rattle.text.specs.declared.Field.{Field}
use Rattle.text.specs.declared.Field.TheVariants.{Empty, Number, Other}
use Rattle.text.specs.Reading.{most, number_or_over, with_digit, with_byte}

-- here a field's bytes stand in a list with the last one first

unfoldable pub digit : ℕ → Bool
digit byte = leb 48 byte && leb byte 57

unfoldable pub digits : List ℕ → Bool
digits [] = true
digits (byte ∷ before) = digit byte && digits before

-- the number that some digits spell
unfoldable pub spelled : List ℕ → ℕ
spelled [] = 0
spelled (byte ∷ before) = spelled before * 10 + (byte - 48)

unfoldable pub read : List ℕ → Field
read [] = Empty
read (byte ∷ before) = with_byte (read before) byte

-- a digit after a number
more : (n d : ℕ) → with_digit (number_or_over n) d ≡ number_or_over (n * 10 + d)
unfolding with_digit
more n d = go (leb n most) refl
  where
    go : (b : Bool) → leb n most ≡ b → with_digit (number_or_over n) d ≡ number_or_over (n * 10 + d)
    go true e = rw e
    go false e = let over = leb-false n most e in rw (e, lt-leb (n * 10 + d) most (omega arith))

first : (byte : ℕ) → byte ≤ 57 → with_digit Empty (byte - 48) ≡ number_or_over (0 * 10 + (byte - 48))
unfolding with_digit
first byte h = rw (le-leb (0 * 10 + (byte - 48)) most (omega arith)) (ap Number (omega arith))

-- one digit or more
pub numbers : (byte : ℕ) (before : List ℕ) → digits (byte ∷ before) ≡ true → read (byte ∷ before) ≡ number_or_over (spelled (byte ∷ before))
unfolding digit digits spelled read with_byte
numbers byte [] all =
    let here = ((and-is-true (digit byte) true).0 all).0 in
    rw here (first byte (leb-true byte 57 ((and-is-true (leb 48 byte) (leb byte 57)).0 here).1))
numbers byte (b ∷ before) all =
    let here = (and-is-true (digit byte) (digits (b ∷ before))).0 all in
    rw (here.0, numbers b before here.1) (more (spelled (b ∷ before)) (byte - 48))

-- something else than digits
pub others : (bytes : List ℕ) → digits bytes ≡ false → read bytes ≡ Other
unfolding digit digits read with_byte with_digit
others [] none = absurd (let z : ◌≡◌ {A = ℕ} 0 1 = cc in omega arith)
others (byte ∷ before) none = go (digit byte) refl (others before)
  where
    go : (b : Bool) → digit byte ≡ b → (digits before ≡ false → read before ≡ Other) → with_byte (read before) byte ≡ Other
    go false e rest = rw e
    go true e rest = rw (e, rest (rw e at none))
