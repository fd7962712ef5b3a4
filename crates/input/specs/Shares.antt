-- Shares: which are allowed, and what a packet costs a class with a share.
use Rattle.std.specs.Prelude.{ℕ, ◌+◌, ◌*◌, ◌/◌, ◌%◌, Bool, cond, ◌&&◌, leb, eqb}
use Rattle.input.specs.Limits.{least_share, whole, scale}

-- a share is at least one part and at most all of them
unfoldable pub allowed : ℕ → Bool
allowed share = leb least_share share && leb share whole

-- a quotient rounded up; 0 for a denominator of 0
unfoldable pub rounded_up : ℕ → ℕ → ℕ
rounded_up numerator denominator =
    cond (eqb denominator 0) 0 (numerator / denominator + cond (eqb (numerator % denominator) 0) 0 1)

-- ticks that a packet costs a class with this share, rounded up once a packet
unfoldable pub charge : ℕ → ℕ → ℕ
charge length share = rounded_up (scale * length) share
