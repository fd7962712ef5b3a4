-- `list_refused` meets its contract: each answer goes by the tests on its way.
-- Assumes nothing.
use mathlib.Core.Path.{refl}
use native.Mathlib.Omega.{arith}
use borrow.Author.Tests.{lt-ltb, le-ltb}
use Rattle.input.specs.Refusals.{nothing, given}
use Rattle.pcap.specs.Outcomes.{list_refused}
use Rattle.tables.proofs.Judging.{refuses}
use Rattle.captures.proofs.list_refused.Goals as goal

pub returns-then-classes-events : goal.returns-then-classes-events
unfolding list_refused given
returns-then-classes-events c = refuses c.refusal.ensures (omega arith) (rw (lt-ltb _ _ c.if-classes-events.true) refl)

pub returns-then-lengths-events : goal.returns-then-lengths-events
unfolding list_refused given
returns-then-lengths-events c =
    let s = c.args in
    refuses c.refusal-then-lengths-events.ensures (omega arith)
    (rw (le-ltb s.classes s.events (omega (arith, c.if-classes-events.false)), lt-ltb s.lengths s.events c.if-lengths-events.true) refl)

pub returns : goal.returns
unfolding list_refused given nothing
returns c =
    let s = c.args in
    (rw (le-ltb s.classes s.events (omega (arith, c.if-classes-events.false)), le-ltb s.lengths s.events (omega (arith, c.if-lengths-events.false))) refl, refl)
