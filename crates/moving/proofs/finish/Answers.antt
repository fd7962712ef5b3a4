-- `moving::finish` meets its contract: the list of children, the departure before the way up, the way up and what goes on the line are the event.
-- Assumes nothing.
use Prim.Native.Nat.{ℕ}
use Rattle.rules.specs.Box.{left}
use Rattle.moving.proofs.Finishing.{onward_climbs, onward_leeway, finished}
use Rattle.moving.proofs.finish.Goals as goal

pub up-requires : goal.up-requires
up-requires c =
    let able = c.requires.3 in
    let arrays = c.requires.4 in
    let onward = c.depart-class.ensures.rows_after c.args.n c.requires.0 (left c.requires.2) able.next_is in
    record {
      climbs = (
        c.args.n,
        c.requires.0,
        c.args.tree.now.depths,
        (λ (r : ℕ). r),
        onward_climbs able arrays _ _ _ _ c.depart-class.ensures.class_sent c.list_children-finding.ensures,
      );
      inside = able.able.ready.inside;
      leeway = onward_leeway able arrays _ _ onward;
    }

pub returns-clause-finished : goal.returns-clause-finished
returns-clause-finished c ids place box given lent =
    let n = c.args.n in
    let class = c.depart-class.ensures.class_sent in
    let climbs = onward_climbs given lent _ _ _ _ class c.list_children-finding.ensures in
    finished given lent _ _ _ _ _ _ _ class (c.depart-class.ensures.rows_after n ids (left box) given.next_is)
    (c.up.ensures n ids c.args.tree.now.depths (λ (r : ℕ). r) climbs)
    (c.depart-class.ensures.counts_after n ids box lent.rows_are lent.counts_are) c.on_line.ensures
