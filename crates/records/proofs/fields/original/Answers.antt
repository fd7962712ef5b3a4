-- `records::fields::original` meets its contract.
-- Assumes nothing.
use mathlib.Core.Path.{◌∙◌}
use Rattle.records.proofs.Laid.{by_layout}
use Rattle.records.proofs.fields.original.Goals as goal

pub returns : goal.returns
returns c laid = let a = c.args in c.word.ensures ∙ by_layout a.capture.now a.layout laid a.at 12
