-- `lines::put_words` meets its contract: a line more each time, until none remains.
-- Assumes nothing.
use mathlib.Core.Path.{◌≡◌}
use mathlib.Core.List.{[]}
use native.Mathlib.Omega.{arith}
use lib.ListN.{drop, drop_of_length-le}
use Rattle.output.specs.Pages.{with_text}
use Rattle.output.proofs.Pages.{then}
use Rattle.forms.specs.Texts.{word_lines}
use Rattle.lines.proofs.WordLines.{words_turn}
use Rattle.lines.proofs.lent.put_words.Goals as goal

pub loop-word-preserved : goal.loop-word-preserved
loop-word-preserved c =
    words_turn c.args.words.now c.loop-word.word-index _ _ _ (omega arith) (then _ _ _ c.put_word-after.ensures c.put_end-used.ensures) c.loop-word.invariant

pub returns : goal.returns
unfolding word_lines with_text
returns c =
    let words = c.args.words.now in
    let none : drop c.loop-word.word-index words ≡ [] = drop_of_length-le words {i = c.loop-word.word-index} (omega arith) in
    rw none at c.loop-word.invariant
