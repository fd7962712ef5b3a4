-- A row's lag, from the lists that it is read from.
-- Assumes nothing.
use Prim.Native.Nat.{ℕ, ◌*◌, ◌-◌}
use mathlib.Core.Path.{◌≡◌}
use mathlib.Core.Logic.{◌≢◌}
use borrow.Author.Tests.{ne_eqb}
use lib.ListN.{get_or}
use lib.IntN.{pos, ◌-ℤ◌}
use Rattle.input.specs.Limits.{whole}
use Rattle.input.specs.Classes.{Tree}
use Rattle.rules.specs.Box.{Box}
use Rattle.rules.specs.Outcome.{lag}
use Rattle.arrays.specs.declared.TreeArrays.{TreeArrays}
use Rattle.arrays.specs.declared.CountArrays.{CountArrays}
use Rattle.counts.specs.Counts.{Counts}
use Rattle.report.specs.Lags.{Shares}

pub root_lag : (tree : Tree) (box : Box) (r : ℕ) → r ≡ 0 → pos 0 ≡ lag tree box r
unfolding lag
root_lag tree box r root = rw root

pub idle_lag : (tree : Tree) (box : Box) (r : ℕ) → r ≢ 0 → get_or box.held r 0 ≡ 0 → pos 0 ≡ lag tree box r
unfolding lag
idle_lag tree box r below idle = rw (ne_eqb r 0 below, idle)

pub busy_lag : (tree : Tree) (box : Box) (r : ℕ) (t : TreeArrays) (c : CountArrays)
    → r ≢ 0
    → get_or c.held r 0 ≢ 0
    → Shares tree t
    → Counts box c
    → pos (get_or t.shares r 0 * (get_or c.bytes (get_or t.parents r 0) 0 - get_or c.parent_since r 0)) -ℤ pos (whole * (get_or c.bytes r 0 - get_or c.since r 0)) ≡ lag tree box r
unfolding lag
busy_lag tree box r t c below busy by counts =
    rw (ne_eqb r 0 below, counts.held, ne_eqb (get_or c.held r 0) 0 busy, by.parents, by.shares, counts.bytes, counts.since, counts.parent_since)
