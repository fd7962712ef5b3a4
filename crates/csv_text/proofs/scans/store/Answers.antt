-- `store` meets its contract: past the end nothing is stored.
-- Assumes nothing.
use mathlib.Core.Path.{sym}
use lib.Seq.{set_out}
use Rattle.csv_text.proofs.scans.store.Goals as goal

pub returns-else-place-words : goal.returns-else-place-words
returns-else-place-words c = sym (set_out _ _ _ c.if-place-words.false)
