-- `close` meets its contract: the gap comes one place further at each turn.
-- Assumes nothing.
use Prim.Native.Nat.{◌≤◌, ◌<◌}
use mathlib.Core.Path.{◌≡◌}
use lib.ListN.{length}
use lib.Seq.{sets}
use Rattle.storing.proofs.Packets.{front}
use Rattle.storing.proofs.close.Given as goal

abbrev pub invariant-loop-j : goal.invariant-loop-j
invariant-loop-j l = (l.i ≤ l.j) × (l.j < l.m) × (l.state ≡ sets l.initial.state l.at (front l.initial.state l.at l.m l.i l.j)) × (length l.state ≡ length l.initial.state)
