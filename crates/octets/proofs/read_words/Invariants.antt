-- `octets::read_words` meets its contract. The loop's invariant: the words of the bytes passed are written over what was lent.
-- Assumes nothing.
use Rattle.std.proofs.Common.{◌≡◌, map}
use Rattle.rules.specs.Outcome.{over}
use Rattle.octets.specs.Octets.{words_below}
use Rattle.octets.proofs.read_words.Given as goal

abbrev pub invariant-loop-i : goal.invariant-loop-i
invariant-loop-i g l = l.words ≡ over (map g.W.Word.word (words_below g.W.Word.SIZE l.bytes l.i)) l.initial.words
