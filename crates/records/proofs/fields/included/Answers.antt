-- `records::fields::included` meets its contract.
-- Assumes nothing.
use mathlib.Core.Path.{◌∙◌}
use Rattle.records.proofs.Laid.{by_layout}
use Rattle.records.proofs.fields.included.Goals as goal

pub returns : goal.returns
returns c =
    let a = c.args in (
      c.wide.ensures.1,
      λ laid. c.wide.ensures.0 ∙ c.word.ensures ∙ by_layout a.capture.now a.layout laid a.at 8,
    )
