-- `close` meets its contract: the gap comes one place further at each turn.
-- Assumes nothing.
use mathlib.Core.Path.{refl}
use lib.ListN.{length-set}
use Rattle.storing.proofs.Packets.{closed_none, closed_turn, closed_all}
use native.Mathlib.Omega.{arith}
use Rattle.storing.proofs.close.Goals as goal

pub loop-j-init : goal.loop-j-init
loop-j-init c =
    let s = c.args in
    (omega arith, omega arith, closed_none s.state.now s.at s.m s.i (omega arith) (omega arith), refl)

pub loop-j-preserved : goal.loop-j-preserved
loop-j-preserved c =
    let s = c.args in (
      omega arith,
      omega arith,
      closed_turn s.state.now s.at s.m s.i (omega arith) (omega arith) c.loop-j.state c.loop-j.j (omega arith) (omega arith) c.loop-j.invariant.2,
      simp length-set (omega arith),
    )

pub returns : goal.returns
returns c = let s = c.args in record { state_after = rw (← closed_all s.state.now s.at s.m s.i (omega arith) (omega arith) c.loop-j.j (omega arith) (omega arith)) c.loop-j.invariant.2; state_unchanged = c.loop-j.invariant.3 }
