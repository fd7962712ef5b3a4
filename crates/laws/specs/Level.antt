-- One level on its own: children with shares, each idle, waiting or taken, and a virtual time; how far a child can be behind.
use Rattle.std.specs.Prelude.{ℕ, zero, suc, ◌+◌, ◌*◌, ◌-◌, ◌≤◌, ◌<◌, max, ◌⊎◌, cond, leb}
use Rattle.input.specs.Limits.{whole, scale}

-- a child: without a head, with its finish; with a head, start and finish; or taken, with its finish
pub data Mode : Type 0 where
  idle : ℕ → Mode
  waits : ℕ → ℕ → Mode
  taken : ℕ → Mode

unfoldable pub sum : ℕ → (ℕ → ℕ) → ℕ
sum zero f = 0
sum (suc n) f = sum n f + f n

-- what a child may still ask of the level by the virtual time d, for each unit of its share
unfoldable pub demand : Mode → ℕ → ℕ → ℕ
demand (idle f) v d = d - max f v
demand (waits s f) v d = cond (leb f d) (d - s) 0
demand (taken f) v d = d - f

-- a child with a head whose finish is at most d
abbrev pub Due : Mode → ℕ → Type 0
Due (idle f) d = ⊥
Due (waits s f) d = f ≤ d
Due (taken f) d = f ≤ d

-- where the balance is claimed: from the virtual time on, and from the finish of each child with a head on
abbrev pub Claimed : ℕ → (ℕ → Mode) → ℕ → ℕ → Type 0
Claimed n m v d = (v ≤ d) ⊎ ((j : ℕ) × (j < n) × Due (m j) d)

-- behind: the virtual time with all demands by d, the unused share's among them, is at most d and one largest packet
unfoldable pub Behind : (n : ℕ) (w : ℕ → ℕ) (spare : ℕ) (m : ℕ → Mode) (v largest : ℕ) → Type 0
Behind n w spare m v largest =
    (d : ℕ) → Claimed n m v d
    → whole * v + (sum n (λ j. w j * demand (m j) v d) + spare * (d - v)) ≤ whole * d + scale * largest
