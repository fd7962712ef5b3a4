-- `queues::send` meets its contract: a word is written where the line is idle and there is a head, else none.
-- Assumes nothing.
use mathlib.Core.Path.{refl}
use native.Mathlib.Omega.{arith}
use Rattle.queues.proofs.Words.{sent_none, sent_busy, sent_one}
use Rattle.queues.proofs.send.Goals as goal

pub returns-then-head-eq0 : goal.returns-then-head-eq0
returns-then-head-eq0 c = let none = sent_none c.args.idle c.args.head c.if-head-eq0.true in
    record { order_after = rw none refl; value = rw none (omega arith) }

pub returns-then-idle : goal.returns-then-idle
returns-then-idle c = let one = sent_one c.args.idle c.args.head c.if-idle.true c.if-head-eq0.false in
    record { order_after = rw (one, c.wide.ensures.0) refl; value = rw one (omega arith) }

pub returns : goal.returns
returns c = let none = sent_busy c.args.idle c.args.head c.if-idle.false in
    record { order_after = rw none refl; value = rw none (omega arith) }
