-- The rows of the events stand at the events' places.
-- Assumes nothing.
use Prim.Native.Nat.{ℕ, ◌<◌, ◌≤◌}
use mathlib.Core.Path.{◌≡◌, refl}
use lib.ListN.{length, get_or, replicate, length-replicate}
use Rattle.input.specs.Limits.{most_events}
use Rattle.input.specs.Classes.{Tree}
use Rattle.input.specs.Events.{Events, event}
use Rattle.input.specs.EventRows.{row_for, no_rows, rows_for}
use Rattle.input.proofs.Filled.{filled_at}

-- with a variable for the number of zeros, which is then never counted
zeros_hold : (most n : ℕ) → n ≤ most → n ≤ length (replicate {A = ℕ} most 0)
zeros_hold most n few = rw (length-replicate {A = ℕ} most 0) few

pub row_at : (tree : Tree) (events : Events) (n i : ℕ) → i < n → n ≤ most_events
    → get_or (rows_for tree events n) i 0 ≡ row_for tree (event events i)
unfolding no_rows rows_for
row_at tree events n i below few =
    filled_at (rows_for tree events) (λ i. row_for tree (event events i)) (λ i. refl) 0 n i below (zeros_hold most_events n few)
