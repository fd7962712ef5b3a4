-- `holding::packets::packets_sound` meets its contract: the packets passed fit, and the least name that the next may have is kept.
-- Assumes nothing.
use mathlib.Core.Path.{◌≡◌}
use mathlib.Core.Bool.{true}
use Rattle.live_rules.specs.Soundness.{all}
use Rattle.holding.specs.Packets.{fits_at, least_at}
use Rattle.holding.proofs.packets.packets_sound.Given as goal

abbrev pub invariant-loop-i : goal.invariant-loop-i
invariant-loop-i l = (l.least ≡ least_at l.words l.i) × (all l.i (fits_at l.n l.senders l.limit l.words) ≡ true)
