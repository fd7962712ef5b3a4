-- A run one event at a time: an accepted event is an arrival that fits, or the finish of the packet on the line.
-- Assumes nothing.
use Prim.Native.Nat.{ℕ, suc, ◌≤◌, ◌<◌}
use mathlib.Core.Path.{◌≡◌, refl}
use mathlib.Core.Logic.{◌≢◌, ◌⊎◌, inl, inr, ⊎_elim}
use mathlib.Core.Bool.{Bool, true, false, cond}
use native.Mathlib.Omega.{arith}
use lib.Dec.{eqb}
use Rattle.input.specs.declared.Event.{Event}
use Rattle.input.specs.declared.Event.TheVariants.{Arrival, Finish}
use Rattle.input.specs.Classes.{Tree, row_of}
use Rattle.input.specs.Events.{Events, class_word, length_word, decode, event}
use Rattle.rules.specs.Box.{Box, head}
use Rattle.rules.specs.Refused.{idle, event_refused}
use Rattle.rules.specs.Steps.{arrival, departure, step, after}
use Rattle.laws.specs.Sound.{ArrivalFits}
use Rattle.laws.specs.History.{Accepted}
use Rattle.laws.proofs.Level.Heads.{has_true}
use Rattle.laws.proofs.Tree.Trees.{arrival_fits, finish_fits}

-- the row of the class for which the packet named i arrives
abbrev pub class_at : Tree → Events → ℕ → ℕ
class_at tree events i = row_of tree (class_word events i)

-- event i is an arrival of what its two words say
abbrev pub Arrives : Events → ℕ → Type 0
Arrives events i = event events i ≡ Arrival (class_word events i) (length_word events i)

-- each event is that, or a finish
pub met : (events : Events) (i : ℕ) → Arrives events i ⊎ (event events i ≡ Finish)
unfolding event decode
met events i = go (eqb (class_word events i) 0)
  where
    arrival_event : Event
    arrival_event = Arrival (class_word events i) (length_word events i)

    go : (b : Bool) → (cond b Finish arrival_event ≡ arrival_event) ⊎ (cond b Finish arrival_event ≡ Finish)
    go true = inr refl
    go false = inl refl

module _ (tree : Tree) (events : Events) where
  pub fewer : (n m : ℕ) → n ≤ m → Accepted tree events m → Accepted tree events n
  fewer n m earlier ok = record { sound = ok.sound; each = λ i before. ok.each i (omega arith) }

  -- what the next box has after an arrival that fits, and after a finish of what is on the line, it has
  pub turn :
      (last : ℕ) → Accepted tree events last → (i : ℕ) → i < last → (P : Box → Type 0)
      → (Arrives events i → ArrivalFits tree (class_word events i) (length_word events i)
      → P (arrival tree i (class_at tree events i) (length_word events i) (after tree events i)))
      → (event events i ≡ Finish → length_word events i ≡ 0 → head (after tree events i).rows 0 ≢ 0 → P (departure tree (after tree events i)))
      → P (after tree events (suc i))
  unfolding after step event_refused
  turn last ok i before P arriving finishing = ⊎_elim arrives finishes (met events i)
    where
      arrives : Arrives events i → P (step tree i (event events i) (after tree events i))
      arrives is = rw is (arriving is (arrival_fits tree ok.sound i _ _ _ (idle (after tree events i)) (rw is at (ok.each i before))))

      finishes : event events i ≡ Finish → P (step tree i (event events i) (after tree events i))
      finishes is =
          let fits = finish_fits tree i _ (after tree events i) (rw is at (ok.each i before)) in
          rw is (finishing is fits.0 (has_true (after tree events i).rows 0 fits.1))
