-- `events::step` meets its contract: what comes before the way up, the way up, and what goes on the line are the event.
-- Assumes nothing.
use Rattle.events.proofs.Stepping.{room, few_sent}
use Rattle.events.proofs.step.Goals as goal

pub up-requires-clause-climbs : goal.up-requires-clause-climbs
up-requires-clause-climbs g c =
    let (n, ids, classes, coming) = c.requires in
    (n, ids, _, _, (c.meet-front.ensures n ids classes c.args.sent c.args.finding.now c.args.order.now coming).climbs)

pub up-requires-clause-leeway : goal.up-requires-clause-leeway
up-requires-clause-leeway g c =
    let (n, ids, classes, coming) = c.requires in
    (c.meet-front.ensures n ids classes c.args.sent c.args.finding.now c.args.order.now coming).leeway

pub send-requires : goal.send-requires
send-requires g c = let coming = c.requires.3 in record { order_room = room coming; events_few = few_sent coming }

pub returns : goal.returns
returns g c n ids classes given =
    let fronted = c.meet-front.ensures n ids classes c.args.sent c.args.finding.now c.args.order.now given in
    fronted.over _ _ _ _ (c.up.ensures n ids _ _ fronted.climbs) c.send.ensures.order_after c.send.ensures.value
