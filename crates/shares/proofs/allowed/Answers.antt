-- `shares::allowed` meets its contract: both tests of the definition, one after the other.
-- Assumes nothing.
use native.Mathlib.Omega.{arith}
use borrow.Author.Tests.{le-leb, lt-leb}
use Rattle.input.specs.Limits.{least_share}
use Rattle.input.specs.Shares.{allowed}
use Rattle.shares.proofs.allowed.Goals as goal

pub returns-then-share-lt-LEAST_SHARE : goal.returns-then-share-lt-LEAST_SHARE
unfolding allowed
returns-then-share-lt-LEAST_SHARE c = rw (lt-leb least_share c.args.share c.if-share-lt-LEAST_SHARE.true)

pub returns : goal.returns
unfolding allowed
returns c = rw (le-leb least_share c.args.share (omega arith))
