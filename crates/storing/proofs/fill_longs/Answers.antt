-- `fill_longs` meets its contract: the words, and the zeros behind them.
-- Assumes nothing.
use Prim.Native.Nat.{◌+◌, ◌-◌}
use mathlib.Core.Path.{◌≡◌, refl}
use native.Mathlib.Omega.{arith}
use Rattle.input.specs.Classes.{zeros}
use Rattle.live_rules.specs.Layout.{words_at}
use Rattle.live_rules.proofs.Rows.{rows_split}
use Rattle.storing.proofs.fill_longs.Goals as goal

pub returns : goal.returns
unfolding words_at zeros
returns c =
    let s = c.args in
    let e : s.at + s.n - s.at ≡ s.n = omega arith in
    rw (rows_split s.at s.n s.state.now (omega arith), c.copy_from_slice.ensures.after, e) refl
