-- `octets::write_words` meets its contract. The loop's invariant: the bytes of the words passed are written over what was lent.
-- Assumes nothing.
use Rattle.std.proofs.Common.{◌≡◌, take, map}
use Rattle.rules.specs.Outcome.{over}
use Rattle.octets.specs.Octets.{bytes_of}
use Rattle.octets.proofs.write_words.Given as goal

abbrev pub invariant-loop-i : goal.invariant-loop-i
invariant-loop-i g l = l.bytes ≡ over (bytes_of g.W.Word.SIZE (map g.W.Word.number (take l.i l.words))) l.initial.bytes
