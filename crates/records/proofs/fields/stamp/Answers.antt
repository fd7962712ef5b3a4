-- `records::fields::stamp` meets its contract.
-- Assumes nothing.
use mathlib.Core.Path.{refl, ◌∙◌, ap₂}
use Rattle.pcap.specs.Records.{microseconds, stamp_at}
use Rattle.records.proofs.Laid.{by_layout, first_by_layout}
use Rattle.records.proofs.fields.stamp.Goals as goal

pub returns : goal.returns
unfolding stamp_at
returns c =
    let a = c.args in (
      c.microseconds.ensures.0,
      λ laid.
          let seconds = c.word-seconds.ensures ∙ first_by_layout a.capture.now a.layout laid a.at in
          let fraction = c.word-fraction.ensures ∙ by_layout a.capture.now a.layout laid a.at 4 in
          c.microseconds.ensures.1 ∙ ap₂ (microseconds a.layout) seconds fraction ∙ rw laid refl,
    )
