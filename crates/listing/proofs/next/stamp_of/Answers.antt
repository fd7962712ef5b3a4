-- `stamp_of` meets its contract: past the end every stamp is 0.
-- Assumes nothing.
use mathlib.Core.Path.{sym}
use lib.ListN.{get_or-eq_default}
use native.Mathlib.Omega.{arith}
use Rattle.listing.proofs.next.stamp_of.Goals as goal

pub returns : goal.returns
returns c = sym (get_or-eq_default c.args.stamps.now 0 {n = c.args.k} (omega arith))
