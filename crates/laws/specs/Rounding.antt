-- How much rounding up can add: to a charge, and to a step of the promise.
use Rattle.std.specs.Prelude.{ℕ, ◌*◌, ◌%◌, ◌<◌, ◌≡◌, cond, true, List, eqb}
use Rattle.input.specs.Limits.{scale}
use Rattle.input.specs.Classes.{Tree, share}
use Rattle.input.specs.Events.{Events}
use Rattle.rules.specs.Promise.{within, ticks_for}

-- the ticks by which a packet may be charged too much under this share: none where the share divides the scale
unfoldable pub rounding : ℕ → ℕ
rounding share = cond (eqb (scale % share) 0) 0 1

-- the ticks of a row's step, counted only where its share does not divide the scale
unfoldable pub rounded_ticks : Tree → Events → List ℕ → ℕ → ℕ
rounded_ticks tree events sent r = rounding (share tree r) * ticks_for tree events sent r

-- every share on row k's path divides the scale; those of other rows may be any
abbrev pub Exact : Tree → ℕ → Type 0
Exact tree k = (r : ℕ) → 0 < r → within tree r k ≡ true → scale % share tree r ≡ 0
