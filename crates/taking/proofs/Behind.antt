-- The packet on the line among those held: where it stands, and which of its class stand behind it.
-- Assumes nothing.
use Prim.Native.Nat.{ℕ, suc, ◌<◌, ◌^◌}
use mathlib.Core.Path.{◌≡◌, refl}
use mathlib.Core.List.{List, [], ◌∷◌, tail}
use native.Mathlib.Omega.{arith}
use lib.ListN.{length, drop}
use borrow.Author.Tests.{eq-eqb, ne_eqb}
use Rattle.input.specs.Classes.{Tree}
use Rattle.live_rules.specs.State.{Held, queue}
use Rattle.live_laws.specs.Holds.{Fitting}
use Rattle.live_laws.proofs.Queues.{Led, front, none_led}
use Rattle.storing.specs.Packets.{place_of, Worded}

module _ (tree : Tree) (limit name k : ℕ) where
  pub place_led :
      (least : ℕ) (packets : List Held) → Fitting tree limit least packets → Led name (queue packets k) → place_of name packets < length packets
  unfolding Fitting place_of
  place_led least [] fits led = absurd (none_led tree limit name k led)
  place_led least (packet ∷ later) fits led =
      front tree limit name k (place_of name (packet ∷ later) < length (packet ∷ later)) least packet later fits led
      (λ same class. rw (eq-eqb packet.name name same) (omega arith))
      (λ apart class rest.
      let behind = place_led (suc packet.name) later fits.5 rest in
      rw (ne_eqb packet.name name apart) (omega arith))

  pub queue_behind :
      (least : ℕ) (packets : List Held) → Fitting tree limit least packets → Led name (queue packets k)
      → queue (drop (suc (place_of name packets)) packets) k ≡ tail (queue packets k)
  unfolding Fitting place_of queue
  queue_behind least [] fits led = absurd (none_led tree limit name k led)
  queue_behind least (packet ∷ later) fits led =
      front tree limit name k (queue (drop (suc (place_of name (packet ∷ later))) (packet ∷ later)) k ≡ tail (queue (packet ∷ later) k)) least packet later
      fits
      led
      (λ same class. rw (eq-eqb packet.name name same, eq-eqb packet.class k class) refl)
      (λ apart class rest.
      rw (ne_eqb packet.name name apart, ne_eqb packet.class k class) (queue_behind (suc packet.name) later fits.5 rest))

-- names below a limit that fits are words
pub fitting_worded :
    (tree : Tree) (limit least : ℕ) (packets : List Held) → limit < 2 ^ 32 → Fitting tree limit least packets → Worded packets
unfolding Fitting Worded
fitting_worded tree limit least [] few fits = tt
fitting_worded tree limit least (packet ∷ later) few fits =
    (omega (arith, fits.4), fits.2, fitting_worded tree limit (suc packet.name) later few fits.5)
