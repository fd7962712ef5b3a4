-- `take_packet` meets its contract: a word less in each of the three lists.
-- Assumes nothing.
use mathlib.Core.Path.{◌∙◌}
use Rattle.storing.proofs.Packets.{packets_left}
use native.Mathlib.Omega.{arith}
use Rattle.storing.proofs.take_packet.Goals as goal

pub returns : goal.returns
returns c = let s = c.args in record {
  state_after = packets_left
      s.m
      s.state.now
      (omega arith)
      (omega arith)
      s.i
      _
      _
      _
      c.close.ensures.state_after
      c.close-2.ensures.state_after
      c.close-3.ensures.state_after;
  state_unchanged = c.close-3.ensures.state_unchanged ∙ c.close-2.ensures.state_unchanged ∙ c.close.ensures.state_unchanged;
}
