-- `store_words` meets its contract: a row more at each turn.
-- Assumes nothing.
use mathlib.Core.Path.{refl}
use lib.ListN.{length-set}
use Rattle.storing.proofs.Turns.{written_none, written_turn}
use native.Mathlib.Omega.{arith}
use Rattle.storing.proofs.store_words.Goals as goal

pub loop-r-init : goal.loop-r-init
loop-r-init c = (written_none _ c.args.list.now c.args.at, refl)

pub loop-r-preserved : goal.loop-r-preserved
loop-r-preserved c =
    let s = c.args in (
      written_turn c.loop-r.state s.state.now s.list.now s.at c.loop-r.r _ (omega arith) c.long.ensures.0 c.loop-r.invariant.0,
      simp length-set (omega arith),
    )
