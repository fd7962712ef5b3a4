-- `input::decode` meets its contract: class 0 is a finish, any other an arrival.
-- Assumes nothing.
use borrow.Author.Tests.{eq-eqb, ne_eqb}
use Rattle.input.specs.Events.{decode}
use Rattle.input.proofs.decode.Goals as goal

pub returns-then-class-eq0 : goal.returns-then-class-eq0
unfolding decode
returns-then-class-eq0 c = rw (eq-eqb c.args.class 0 c.if-class-eq0.true)

pub returns : goal.returns
unfolding decode
returns c = rw (ne_eqb c.args.class 0 c.if-class-eq0.false)
