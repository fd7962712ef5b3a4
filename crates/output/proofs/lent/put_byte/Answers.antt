-- `output::put_byte` meets its contract: a byte that finds room is set, and one that finds none is left out.
-- Assumes nothing.
use native.Mathlib.Omega.{arith}
use Rattle.output.proofs.Pages.{byte_put, byte_left}
use Rattle.output.proofs.lent.put_byte.Goals as goal

pub returns-then-used-page : goal.returns-then-used-page
returns-then-used-page c = byte_put c.args.page.now c.args.used c.args.byte (omega arith)

pub returns : goal.returns
returns c = byte_left c.args.page.now c.args.used c.args.byte (omega arith)
