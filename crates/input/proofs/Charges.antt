-- Allowed shares, quotients rounded up, and the most that a packet is charged.
-- Assumes nothing.
use Prim.Native.Nat.{ℕ, suc, ◌+◌, ◌*◌, ◌/◌, ◌%◌, ◌≤◌, ◌<◌}
use mathlib.Core.Path.{◌≡◌}
use native.Mathlib.Nat.{div-add-mod, mod-lt, mul-le-mul_left, mul-le-mul_right}
use native.Mathlib.Decide.{ℕ_discrete, dec_le}
use native.Mathlib.Omega.{arith}
use lib.Dec.{T, leb, leb→le}
use mir.Facts.{and_yes}
use borrow.Author.Tests.{eq-eqb, ne_eqb}
use Rattle.input.specs.Limits.{least_share, whole, scale}
use Rattle.input.specs.Shares.{allowed, rounded_up, charge}

-- what the test of a share says
pub allowed_parts : (w : ℕ) → T (allowed w) → (least_share ≤ w) × (w ≤ whole)
unfolding allowed
allowed_parts w ok =
    let bounds = and_yes (leb least_share w) (leb w whole) ok in
    (leb→le least_share w bounds.0, leb→le w whole bounds.1)

-- ── rounding up ──

module _ (n d : ℕ) (some : 0 < d) where
  -- by nothing where the division leaves nothing
  rounded_exact : n % d ≡ 0 → d * rounded_up n d ≡ n
  unfolding rounded_up
  rounded_exact none =
      let parts = div-add-mod n d in
      rw (ne_eqb d 0 (λ zero_is. omega arith), eq-eqb (n % d) 0 none) (omega arith)

  -- else to the next
  rounded_more : (n % d ≡ 0 → ⊥) → d * rounded_up n d ≡ d * (n / d) + d
  unfolding rounded_up
  rounded_more left = rw (ne_eqb d 0 (λ zero_is. omega arith), ne_eqb (n % d) 0 left) (omega arith)

  -- never down, and by less than one
  pub rounded_covers : n ≤ d * rounded_up n d
  rounded_covers = go (ℕ_discrete (n % d) 0)
    where
      go : Dec (n % d ≡ 0) → n ≤ d * rounded_up n d
      go (yes none) = let exact = rounded_exact none in omega arith
      go (no left) =
          let parts = div-add-mod n d in
          let less = mod-lt n some in
          rw (rounded_more left) (omega arith)

  pub rounded_close : d * rounded_up n d < n + d
  rounded_close = go (ℕ_discrete (n % d) 0)
    where
      go : Dec (n % d ≡ 0) → d * rounded_up n d < n + d
      go (yes none) = let exact = rounded_exact none in omega arith
      go (no left) = let parts = div-add-mod n d in rw (rounded_more left) (omega arith)

-- a quotient rounded up is no more than what was divided
pub rounded_most : (n d : ℕ) → rounded_up n d ≤ n
rounded_most n d = go (ℕ_discrete d 0) (dec_le (rounded_up n d) n)
  where
    go : Dec (d ≡ 0) → Dec (rounded_up n d ≤ n) → rounded_up n d ≤ n
    go (yes none) fits = rw none (unfold rounded_up in omega arith)
    go (no some) (yes fits) = fits
    go (no some) (no more) =
        let close = rounded_close n d (omega arith) in
        let times = mul-le-mul_left {m = suc n} {n = rounded_up n d} d (omega arith) in
        let once = mul-le-mul_right {m = 1} {n = d} n (omega arith) in
        absurd (omega arith)

-- no packet is charged more than the scale a byte
pub charge_most : (length share : ℕ) → charge length share ≤ scale * length
unfolding charge
charge_most length share = let most = rounded_most (scale * length) share in omega arith
