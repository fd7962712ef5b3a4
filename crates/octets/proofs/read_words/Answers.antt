-- `octets::read_words` meets its contract.
-- Assumes nothing.
use Prim.Native.Nat.{ℕ, ◌/◌}
use mathlib.Core.Path.{◌≡◌, refl, ap}
use native.Mathlib.Omega.{arith}
use lib.ListN.{length}
use Rattle.rules.specs.Outcome.{over}
use Rattle.octets.specs.Octets.{words_below, words_of, word_at}
use Rattle.octets.proofs.Turns.{word_turn}
use Rattle.octets.proofs.read_words.Goals as goal

pub loop-i-init : goal.loop-i-init
unfolding over words_below
loop-i-init g c = refl

pub loop-i-preserved : goal.loop-i-preserved
unfolding word_at
loop-i-preserved g c =
    let size = ap (λ (s : ℕ). length c.args.bytes.now / s) c.SIZE.ensures in
    rw (c.read.ensures, c.SIZE-in-loop-i.ensures)
    (word_turn g.W.Word.SIZE g.W.Word.word c.args.bytes.now c.args.words.now c.loop-i.words c.loop-i.i (omega (arith, size, c.requires)) c.loop-i.invariant)

pub returns : goal.returns
unfolding words_of
returns g c =
    let size = ap (λ (s : ℕ). length c.args.bytes.now / s) c.SIZE.ensures in
    let all : c.loop-i.i ≡ length c.args.bytes.now / g.W.Word.SIZE = omega (arith, size) in
    rw (g.met.W.Word.read_is, ← all) c.loop-i.invariant
