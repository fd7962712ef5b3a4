-- The contracts leave no choice: no two different outcomes meet one.
-- Assumes nothing.
use Prim.Native.Nat.{ℕ}
use Rattle.words.specs.Unique.{Unique}
use Rattle.words.proofs.Determined.{determined}
use Rattle.input.specs.Classes.{on_air, Cuts}
use Rattle.input.specs.Events.{decode, Decodes}

pub one_event : (class length : ℕ) → Unique (Decodes class length)
one_event class length = determined (decode class length)

pub one_cut : (identifier : ℕ) → Unique (Cuts identifier)
one_cut identifier = determined (on_air identifier)
