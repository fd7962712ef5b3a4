-- `octets::U64Word::put` meets its contract: the bytes that the library gives, copied over.
-- Assumes nothing.
use mathlib.Core.Path.{◌∙◌}
use native.Mathlib.Omega.{arith}
use Rattle.octets.specs.Octets.{bytes_in}
use Rattle.octets.proofs.Laws.{length_in}
use Rattle.octets.proofs.Turns.{copied, eight_in}
use Rattle.octets.proofs.U64Word.put.Goals as goal

pub returns : goal.returns
returns c =
    let word = c.args.self in
    rw (c.copy_from_slice.ensures.after ∙ c.to_le_bytes.ensures ∙ eight_in word)
    (copied c.args.bytes.now (bytes_in 8 word) c.args.at 8 (length_in 8 word) (omega (arith, c.requires)))
