-- `next_packet` meets its contract: what remains to be looked through has the same queue.
-- Assumes nothing.
use mathlib.Core.Path.{◌≡◌}
use lib.ListN.{drop}
use Rattle.live_rules.specs.State.{packets_at, queue}
use Rattle.storing.proofs.next_packet.Given as goal

abbrev pub invariant-loop-i : goal.invariant-loop-i
invariant-loop-i l = (queue (drop l.i (packets_at l.m l.state)) l.class ≡ queue (drop l.from (packets_at l.m l.state)) l.class)
