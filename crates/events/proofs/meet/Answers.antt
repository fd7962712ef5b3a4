-- `events::meet` meets its contract, by the kind of event: the laws of one event give what each call asks, and where the way up begins.
-- Assumes nothing.
use native.Mathlib.Omega.{arith}
use Rattle.events.proofs.Stepping.{ready, few_events, finishes, arrives, few_rows, few_bytes, few_from, last_inside, arrived}
use Rattle.events.proofs.Stepping.{class_few, head_some, head_inside, next_inside, next_length, next_packet, finished}
use Rattle.events.proofs.meet.Goals as goal

-- ── a finish ──

pub leave_first-next-requires : goal.leave_first-next-requires
leave_first-next-requires g c =
    let coming = c.requires.6 in
    let is = finishes coming c.if-row-eq0.true in
    record { k_is_row = omega (arith, c.wide.ensures.0, class_few coming is); first_some = head_some coming is; first_inside = head_inside coming is }

pub length_of-next_length-requires : goal.length_of-next_length-requires
length_of-next_length-requires g c =
    let coming = c.requires.6 in
    next_inside coming (finishes coming c.if-row-eq0.true) c.leave_first-next.result c.leave_first-next.ensures.value

pub depart-class-requires : goal.depart-class-requires
depart-class-requires g c =
    let coming = c.requires.6 in
    let is = finishes coming c.if-row-eq0.true in
    record {
      ready = ready coming;
      class_is_row = class_few coming is;
      length_allowed = rw c.length_of-next_length.ensures (next_length coming is c.leave_first-next.result c.leave_first-next.ensures.value);
    }

pub bounds-tree-class : goal.bounds-tree-class
bounds-tree-class g c =
    let coming = c.requires.6 in
    omega (arith, c.depart-class.ensures.class_sent, class_few coming (finishes coming c.if-row-eq0.true))

pub returns-then-row-eq0 : goal.returns-then-row-eq0
returns-then-row-eq0 g c n ids classes sent f order given =
    let is = finishes given c.if-row-eq0.true in
    let next = c.leave_first-next.result in
    let found = c.leave_first-next.ensures.value in
    finished given is next found _ (g.met.F.Finding.keeps f) _ _ _ _ _ c.depart-class.ensures.class_sent
    (c.depart-class.ensures.rows_after n ids _ (rw c.length_of-next_length.ensures (next_packet given is next found)))
    (c.depart-class.ensures.counts_after n ids _ given.now.rows_are given.now.counts_are) c.wide.ensures.0 c.leave_first-next.ensures.lasts_after

-- ── an arrival ──

pub arrive-from-requires : goal.arrive-from-requires
arrive-from-requires g c =
    let coming = c.requires.6 in
    let is = arrives coming c.if-row-eq0.false in
    record { ready = ready coming; k_is_row = few_rows coming is; place_small = omega (arith, few_events coming); length_allowed = few_bytes coming is }

pub join-requires : goal.join-requires
join-requires g c =
    let coming = c.requires.6 in
    let is = arrives coming c.if-row-eq0.false in
    (few_rows coming is, last_inside coming is)

pub offset_bounds-tree-from : goal.offset_bounds-tree-from
offset_bounds-tree-from g c =
    let coming = c.requires.6 in
    omega (arith, c.arrive-from.ensures.front, few_from coming (arrives coming c.if-row-eq0.false))

pub bounds-tree-from : goal.bounds-tree-from
bounds-tree-from g c =
    let coming = c.requires.6 in
    omega (arith, c.arrive-from.ensures.front, few_from coming (arrives coming c.if-row-eq0.false))

pub returns : goal.returns
returns g c n ids classes sent f order given =
    let is = arrives given c.if-row-eq0.false in
    arrived given is _ (g.met.F.Finding.keeps f) _ _ _ _ _ c.arrive-from.ensures.front (c.arrive-from.ensures.rows_after n ids)
    (c.arrive-from.ensures.counts_after n ids _ given.now.counts_are) c.join.ensures.lasts_after c.join.ensures.working_after
