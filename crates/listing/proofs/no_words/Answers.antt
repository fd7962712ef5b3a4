-- `no_words` meets its contract.
-- Assumes nothing.
use Prim.Native.Nat.{ℕ}
use mathlib.Core.Path.{refl, sym}
use lib.ListN.{length-replicate}
use Rattle.input.specs.Limits.{most_events}
use Rattle.input.specs.EventRows.{no_rows}
use Rattle.listing.proofs.no_words.Goals as goal

pub returns : goal.returns
unfolding no_rows
returns c = (refl, sym (length-replicate {A = ℕ} most_events 0))
