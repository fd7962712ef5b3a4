-- `blank` meets its contract: so many zeros are as many.
-- Assumes nothing.
use Prim.Native.Nat.{ℕ}
use mathlib.Core.Path.{sym}
use lib.ListN.{length-replicate}
use Rattle.capture.proofs.blank.Goals as goal

pub returns : goal.returns
returns c = sym (length-replicate {A = ℕ} 4194304 0)
