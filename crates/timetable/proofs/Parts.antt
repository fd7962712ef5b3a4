-- The lines of some packets and then of others are those of all of them.
-- Assumes nothing.
use Prim.Native.Nat.{ℕ}
use mathlib.Core.Path.{◌≡◌, refl, sym}
use mathlib.Core.List.{List, [], ◌∷◌, ◌++◌, append_assoc}
use Rattle.input.specs.Events.{Events}
use Rattle.pcap.specs.Printed.{free_after, packet_line, packet_lines}
use Rattle.timetable.specs.Free.{free_through}

module _ (stamps : List ℕ) (rate : ℕ) (events : Events) where
  pub free_append :
      (free : ℕ) (a b : List ℕ)
      → free_through stamps rate events free (a ++ b) ≡ free_through stamps rate events (free_through stamps rate events free a) b
  unfolding free_through
  free_append free [] b = refl
  free_append free (i ∷ a) b = free_append (free_after stamps rate events free i) a b

  pub lines_append :
      (free : ℕ) (a b : List ℕ)
      → packet_lines stamps rate events free (a ++ b)
      ≡ packet_lines stamps rate events free a ++ packet_lines stamps rate events (free_through stamps rate events free a) b
  unfolding packet_lines free_through
  lines_append free [] b = refl
  lines_append free (i ∷ a) b =
      rw (lines_append (free_after stamps rate events free i) a b)
      (sym (append_assoc (packet_line stamps rate events free i) _ _))
