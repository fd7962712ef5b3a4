-- The contract leaves no choice: no two different outcomes of a run on bytes meet it.
-- Assumes nothing.
use Rattle.words.specs.Unique.{Unique}
use Rattle.words.proofs.Determined.{determined}
use Rattle.marginlilac.specs.Exported.{LentBytes, exported, Exports}

pub one_export : (lent : LentBytes) → Unique (Exports lent)
one_export lent = determined (exported lent)
