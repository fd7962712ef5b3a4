-- A run writes no row beyond the tree's last.
-- Assumes nothing.
use Prim.Native.Nat.{ℕ, zero, suc, ◌≤◌}
use native.Mathlib.Omega.{arith}
use Rattle.input.specs.Classes.{Tree}
use Rattle.input.specs.Events.{Events}
use Rattle.rules.specs.Box.{Box, fresh}
use Rattle.rules.specs.Steps.{after}
use Rattle.laws.specs.History.{Accepted}
use Rattle.laws.proofs.Event.Turns.{fewer, turn}
use Rattle.laws.proofs.Event.Outset.{zeros_at}
use Rattle.laws.proofs.Event.OneEvent.{line_sender}
use Rattle.laws.proofs.Event.Beyond.{Nothing, arrival_nothing, departure_nothing}
use Rattle.laws.proofs.Run.Sizes.{few, small_kept}

-- after n events there is nothing
pub nothing_beyond : (tree : Tree) (events : Events) (n : ℕ) → Accepted tree events n → (j : ℕ) → tree.rows ≤ j → Nothing (after tree events n) j
unfolding after fresh
nothing_beyond tree events zero ok j beyond =
    record {
      start_none = zeros_at j;
      finish_none = zeros_at j;
      virtual_none = zeros_at j;
      length_none = zeros_at j;
      bytes_none = zeros_at j;
      held_none = zeros_at j;
    }
nothing_beyond tree events (suc n) ok j beyond =
    let earlier = fewer tree events n (suc n) (omega arith) ok in
    let box = after tree events n in
    let keeps = small_kept tree events n earlier in
    let before = nothing_beyond tree events n earlier j beyond in
    turn tree events (suc n) ok n (omega arith) (λ (box : Box). Nothing box j)
    (λ is fits. arrival_nothing tree ok.sound j beyond n _ _ fits.sender.inside box keeps.rows_full before)
    (λ is none busy.
    departure_nothing tree ok.sound j beyond box (line_sender tree ok.sound few n box keeps busy).inside keeps.rows_full before)
