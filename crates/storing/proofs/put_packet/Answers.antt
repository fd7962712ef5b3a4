-- `put_packet` meets its contract: a word more in each of the three lists.
-- Assumes nothing.
use lib.ListN.{length-set}
use Rattle.storing.proofs.Packets.{packets_joined}
use native.Mathlib.Omega.{arith}
use Rattle.storing.proofs.put_packet.Goals as goal

pub returns : goal.returns
returns c = let s = c.args in record {
  state_after = λ packets same.
      rw (← same, c.counted.ensures, c.long.ensures.0, c.long-2.ensures.0)
      (packets_joined s.m s.state.now (omega arith) (omega arith) (record { class = s.class; length = s.size; name = s.name }));
  state_unchanged = simp length-set;
}
