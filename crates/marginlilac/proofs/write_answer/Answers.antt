-- `marginlilac::write_answer` meets its contract: sixteen bytes are all.
-- Assumes nothing.
use mathlib.Core.Path.{sym, ap, ◌∙◌}
use Prim.Native.Nat.{ℕ}
use mathlib.Core.List.{List}
use lib.ListN.{get_or}
use Rattle.engine.specs.Run.{answer_of}
use Rattle.octets.specs.Octets.{bytes_of}
use Rattle.octets.proofs.Laws.{length_bytes}
use Rattle.marginlilac.specs.Exported.{answer_words, answer_bytes}
use Rattle.marginlilac.proofs.Writing.{over_all}
use Rattle.marginlilac.proofs.write_answer.Goals as goal

pub returns : goal.returns
unfolding answer_bytes
returns c =
    let words = c.answer_words-words.ensures in
    let written = rw words at c.write_words.ensures in
    (written ∙ over_all (bytes_of 4 (answer_words (answer_of c.args.done))) _ (c.requires ∙ sym (length_bytes 4 (answer_words (answer_of c.args.done)))), ap (λ (xs : List ℕ). get_or xs 0 0) words)
