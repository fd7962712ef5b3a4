-- How many words a run's report and lags have.
-- Assumes nothing.
use Prim.Native.Nat.{ℕ, zero, suc, ◌*◌}
use mathlib.Core.Path.{◌≡◌, refl}
use native.Mathlib.Omega.{arith}
use lib.ListN.{length, length-append}
use Rattle.input.specs.Limits.{report_words}
use Rattle.input.specs.Classes.{Tree}
use Rattle.rules.specs.Box.{Box}
use Rattle.rules.specs.Outcome.{row_report, report_of, lags_of}

pub report_length : (tree : Tree) (box : Box) (n : ℕ) → length (report_of tree box n) ≡ report_words * n
unfolding report_of row_report
report_length tree box zero = refl
report_length tree box (suc r) = let earlier = report_length tree box r in simp length-append (omega arith)

pub lags_length : (tree : Tree) (box : Box) (n : ℕ) → length (lags_of tree box n) ≡ n
unfolding lags_of
lags_length tree box zero = refl
lags_length tree box (suc r) = let earlier = lags_length tree box r in simp length-append (omega arith)
