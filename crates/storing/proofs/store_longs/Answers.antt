-- `store_longs` meets its contract: the words before, the rows, and the words behind.
-- Assumes nothing.
use Prim.Native.Nat.{◌+◌, ◌-◌}
use mathlib.Core.Path.{◌≡◌, sym}
use native.Mathlib.Omega.{arith}
use mathlib.Core.List.{append_assoc}
use lib.ListN.{take, drop}
use Rattle.std.proofs.lemmas.List.{drop-drop}
use lib.Seq.{length-take-le}
use Rattle.std.proofs.lemmas.List.Edits.{sets-eq}
use Rattle.live_rules.specs.State.{rows_stored}
use Rattle.storing.proofs.store_longs.Goals as goal

pub returns-clause-state_after : goal.returns-clause-state_after
unfolding rows_stored
returns-clause-state_after c =
    let s = c.args in
    let e : s.at + s.n - s.at ≡ s.n = omega arith in
    let long = length-take-le s.n s.list.now (omega arith) in
    rw (c.copy_from_slice.ensures.after, e, sets-eq (take s.n s.list.now) s.state.now s.at (omega arith), long, drop-drop s.n s.at s.state.now)
    (sym (append_assoc (take s.at s.state.now) (take s.n s.list.now) (drop (s.at + s.n) s.state.now)))
