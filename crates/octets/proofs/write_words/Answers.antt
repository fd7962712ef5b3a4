-- `octets::write_words` meets its contract.
-- Assumes nothing.
use Prim.Native.Nat.{◌+◌, ◌≤◌}
use mathlib.Core.Path.{refl}
use native.Mathlib.Nat.{mul-le-mul_left}
use native.Mathlib.Omega.{arith}
use lib.ListN.{length}
use Rattle.rules.specs.Outcome.{over}
use Rattle.octets.specs.Octets.{bytes_of}
use Rattle.octets.proofs.Turns.{write_turn}
use Rattle.octets.proofs.write_words.Goals as goal

pub loop-i-init : goal.loop-i-init
unfolding over bytes_of
loop-i-init g c = refl

pub loop-i-preserved : goal.loop-i-preserved
loop-i-preserved g c =
    let first : c.loop-i.i + 1 ≤ length c.args.words.now = omega arith in
    let room = mul-le-mul_left g.W.Word.SIZE first in
    rw (c.put.ensures, c.SIZE.ensures)
    (write_turn g.W.Word.SIZE g.W.Word.number c.args.words.now c.index-words-i.result c.args.bytes.now c.loop-i.bytes c.loop-i.i (omega arith) c.index-words-i.is (omega (arith, room, c.requires)) c.loop-i.invariant)
