-- `fill_words` meets its contract: a row more at each turn, so long as it fits.
-- Assumes nothing.
use Prim.Native.Nat.{ℕ, ◌+◌}
use mathlib.Core.Path.{◌≡◌}
use mathlib.Core.Bool.{true}
use lib.Dec.{leb}
use lib.ListN.{get_or}
use Rattle.live_rules.specs.Layout.{rows_at}
use Rattle.live_rules.specs.Soundness.{all}
use Rattle.storing.proofs.fill_words.Given as goal

abbrev pub invariant-loop-r : goal.invariant-loop-r
invariant-loop-r l = (all l.r (λ (i : ℕ). leb (get_or l.state (l.at + i) 0) l.most) ≡ true) × (l.list ≡ rows_at l.at l.r l.state)
