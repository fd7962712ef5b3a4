-- `output::put_text` meets its contract.
-- Assumes nothing.
use mathlib.Core.List.{[]}
use mathlib.Core.Path.{◌≡◌}
use native.Mathlib.Omega.{arith}
use lib.ListN.{drop, drop_of_length-le}
use Rattle.output.specs.Pages.{with_text}
use Rattle.output.proofs.Pages.{text_turn}
use Rattle.output.proofs.lent.put_text.Goals as goal

pub loop-byte-preserved : goal.loop-byte-preserved
loop-byte-preserved c = text_turn c.args.text.now c.loop-byte.byte-index _ _ _ (omega arith) c.put_byte-used.ensures c.loop-byte.invariant

pub returns : goal.returns
unfolding with_text
returns c =
    let none : drop c.loop-byte.byte-index c.args.text.now ≡ [] = drop_of_length-le c.args.text.now {i = c.loop-byte.byte-index} (omega arith) in
    rw none at c.loop-byte.invariant
