-- `octets::U64Word::read` meets its contract: what the library reads is their number.
-- Assumes nothing.
use mathlib.Core.Path.{◌∙◌}
use native.Mathlib.Omega.{arith}
use Rattle.octets.proofs.Turns.{eight_at, read_eight}
use Rattle.octets.proofs.U64Word.read.Goals as goal

pub returns : goal.returns
returns c = c.from_le_bytes.ensures ∙ rw (eight_at c.args.bytes.now c.args.at (omega (arith, c.requires))) (read_eight _ _ _ _ _ _ _ _)
