-- `moving::arrive` meets its contract: the list of children, the arrival before the way up, the way up and what goes on the line are the event.
-- Assumes nothing.
use Prim.Native.Nat.{ℕ}
use native.Mathlib.Omega.{arith}
use Rattle.moving.proofs.Arriving.{few_from, front_climbs, front_leeway, arrived}
use Rattle.moving.proofs.arrive.Goals as goal

pub offset_bounds-tree-from : goal.offset_bounds-tree-from
offset_bounds-tree-from c = omega (arith, c.arrive-from.ensures.front, few_from c.requires.2 c.requires.3)

pub bounds-tree-from : goal.bounds-tree-from
bounds-tree-from c = omega (arith, c.arrive-from.ensures.front, few_from c.requires.2 c.requires.3)

pub up-requires : goal.up-requires
up-requires c =
    let able = c.requires.2 in
    let arrays = c.requires.3 in
    let from = c.arrive-from.ensures.front in
    let front = c.arrive-from.ensures.rows_after c.args.n c.requires.0 in
    record {
      climbs = (c.args.n, c.requires.0, c.args.tree.now.depths, (λ (r : ℕ). r), front_climbs able arrays _ _ _ _ from c.list_children-finding.ensures);
      inside = able.able.ready.inside;
      leeway = front_leeway able arrays _ front;
    }

pub returns-clause-arrived : goal.returns-clause-arrived
returns-clause-arrived c ids box given lent =
    let from = c.arrive-from.ensures.front in
    let front = c.arrive-from.ensures.rows_after c.args.n ids in
    arrived given lent _ _ _ _ _ _ _ from front
    (c.up.ensures c.args.n ids c.args.tree.now.depths (λ (r : ℕ). r) (front_climbs given lent _ _ _ _ from c.list_children-finding.ensures))
    (c.arrive-from.ensures.counts_after c.args.n ids box lent.counts_are) c.on_line.ensures
