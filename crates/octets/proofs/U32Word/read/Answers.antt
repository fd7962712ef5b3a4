-- `octets::U32Word::read` meets its contract: what the library reads is their number.
-- Assumes nothing.
use mathlib.Core.Path.{◌∙◌}
use native.Mathlib.Omega.{arith}
use Rattle.octets.proofs.Turns.{four_at, read_four}
use Rattle.octets.proofs.U32Word.read.Goals as goal

pub returns : goal.returns
returns c = c.from_le_bytes.ensures ∙ rw (four_at c.args.bytes.now c.args.at (omega (arith, c.requires))) (read_four _ _ _ _)
