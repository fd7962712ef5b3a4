-- A class's later packets: only the first of them matters when the class goes on.
-- Assumes nothing.
use Prim.Native.Nat.{ℕ, zero, suc, ◌+◌, ◌≤◌}
use mathlib.Core.Path.{◌≡◌, refl}
use mathlib.Core.List.{List, [], ◌∷◌}
use native.Mathlib.Omega.{arith}
use lib.ListN.{take}
use Rattle.rules.specs.declared.Why.TheVariants.{Finished}
use Rattle.input.specs.Limits.{most_bytes}
use Rattle.input.specs.Classes.{Tree}
use Rattle.rules.specs.Box.{Packet, Rows}
use Rattle.rules.specs.Steps.{new_head, renews}
use Rattle.choosing.specs.Sizes.{Leeway, most_charge}
use Rattle.choosing.proofs.Ticks.{less_leeway}
use Rattle.hierarchy.specs.Next.{next_of}
use Rattle.hierarchy.proofs.Enough.{new_head_leeway}

module _ (tree : Tree) (k : ℕ) (rows : Rows) where
  pub renews_first : (later : List Packet) → renews tree k later rows ≡ renews tree k (take 1 later) rows
  unfolding renews
  renews_first [] = refl
  renews_first (packet ∷ later) = refl

  pub renews_none : (next length : ℕ) → next ≡ 0 → renews tree k (next_of next length) rows ≡ rows
  unfolding renews next_of
  renews_none next length none = rw none

  pub renews_some : (next length : ℕ) → (next ≡ 0 → ⊥) → renews tree k (next_of next length) rows ≡ new_head tree Finished k next length k rows
  unfolding renews next_of
  renews_some zero length some = absurd (some refl)
  renews_some (suc place) length some = refl

  pub renews_leeway : (n next length : ℕ) → length ≤ most_bytes → Leeway (n + most_charge) rows → Leeway n (renews tree k (next_of next length) rows)
  unfolding renews next_of
  renews_leeway n zero length short leeway = less_leeway (n + most_charge) n rows (omega arith) leeway
  renews_leeway n (suc place) length short leeway = new_head_leeway n tree rows leeway Finished k (suc place) length k short
