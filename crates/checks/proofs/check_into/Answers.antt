-- `checks::check_into` meets its contract: lengths, then the table, then the events.
-- Assumes nothing.
use Prim.Native.Nat.{ℕ}
use mathlib.Core.Path.{◌≡◌, refl, sym, ap, subst}
use mathlib.Core.Bool.{Bool}
use mathlib.Core.List.{List}
use Rattle.std.specs.Prelude.{Ok, Err}
use Rattle.input.specs.Classes.{Table, tree_of}
use Rattle.input.specs.Events.{Events}
use Rattle.input.specs.Refusals.{Room}
use Rattle.input.specs.Lent.{table_of, events_of}
use Rattle.tables.specs.declared.Reading.{Reading}
use Rattle.tables.specs.Answers.{accepting}
use Rattle.checks.specs.declared.Checked.{Checked}
use Rattle.checks.specs.Counted.{room_in, checked, Known}
use Rattle.checks.proofs.Rooted.{known}
use Rattle.checks.proofs.Whole.{read_stop, stops_lengths, stops_table, past_table, whole_rows, whole_sized, whole_listed}
use Rattle.checks.proofs.check_into.Goals as goal
use Rattle.checks.proofs.check_into.Goals.{In_ok-reading}

abbrev checked_of : Reading → List ℕ → Checked
checked_of reading rows = record { reading = reading; event_rows = rows }

-- which rows send, as they were read
sending : (c : In_ok-reading) →
    let table : Table = table_of c.args.identifiers.now c.args.parent_identifiers.now c.args.shares.now in
    Known (tree_of table) table.identifiers c.in_ok-reading.reading.senders
unfolding accepting
sending c =
    let table : Table = table_of c.args.identifiers.now c.args.parent_identifiers.now c.args.shares.now in
    let events : Events = events_of c.args.classes.now c.args.lengths.now in
    let room : Room = room_in c.args.room in
    let found = ap (λ (reading : Reading). reading.senders) c.in_ok-reading.ensures.1 in
    subst (λ (senders : List Bool). Known (tree_of table) table.identifiers senders) (sym found)
    (known table (whole_rows table events room c.in_ok-check_lengths.ensures.0) c.in_ok-reading.ensures.0)

pub returns-in_err-check_lengths : goal.returns-in_err-check_lengths
returns-in_err-check_lengths c =
    let table : Table = table_of c.args.identifiers.now c.args.parent_identifiers.now c.args.shares.now in
    let events : Events = events_of c.args.classes.now c.args.lengths.now in
    let room : Room = room_in c.args.room in
    read_stop _ (checked table events) c.args.event_rows.now c.from_residual.result _ c.from_residual.ensures.1
    (stops_lengths table events room _ c.in_err-check_lengths.ensures)

pub read_sized-requires : goal.read_sized-requires
read_sized-requires c =
    let table : Table = table_of c.args.identifiers.now c.args.parent_identifiers.now c.args.shares.now in
    let events : Events = events_of c.args.classes.now c.args.lengths.now in
    let room : Room = room_in c.args.room in
    whole_sized table events room c.in_ok-check_lengths.ensures.0

pub returns-in_err-reading : goal.returns-in_err-reading
returns-in_err-reading c =
    let table : Table = table_of c.args.identifiers.now c.args.parent_identifiers.now c.args.shares.now in
    let events : Events = events_of c.args.classes.now c.args.lengths.now in
    let room : Room = room_in c.args.room in
    let result = c.from_residual-in_err-reading in
    read_stop _ (checked table events) _ result.result _ result.ensures.1
    (stops_table table events room _ c.in_ok-check_lengths.ensures.0 c.in_err-reading.ensures)

pub check_list-requires : goal.check_list-requires
check_list-requires c =
    let table : Table = table_of c.args.identifiers.now c.args.parent_identifiers.now c.args.shares.now in
    let events : Events = events_of c.args.classes.now c.args.lengths.now in
    let room : Room = room_in c.args.room in
    let none = c.in_ok-check_lengths.ensures.0 in
    let many = whole_listed table events room none in
    let size = whole_sized table events room none in
    record { sizes = (size.some, size.most, many.few, many.even); none_filled = c.requires }

pub returns-in_err-check_list : goal.returns-in_err-check_list
returns-in_err-check_list c =
    let table : Table = table_of c.args.identifiers.now c.args.parent_identifiers.now c.args.shares.now in
    let events : Events = events_of c.args.classes.now c.args.lengths.now in
    let room : Room = room_in c.args.room in
    let result = c.from_residual-in_err-check_list in
    let list = c.in_err-check_list.ensures (tree_of table) (sending (goal.at.returns-in_err-check_list c).In_ok-reading) in
    read_stop _ (checked table events) _ result.result _ result.ensures.1
    (past_table table events room (checked table events) (Err _) c.in_ok-check_lengths.ensures.0 c.in_ok-reading.ensures.0 list)

pub returns : goal.returns
unfolding checked
returns c =
    let table : Table = table_of c.args.identifiers.now c.args.parent_identifiers.now c.args.shares.now in
    let events : Events = events_of c.args.classes.now c.args.lengths.now in
    let room : Room = room_in c.args.room in
    let list = c.in_ok-check_list.ensures (tree_of table) (sending (goal.at.returns c).In_ok-reading) in
    let same : checked_of c.in_ok-reading.reading c.check_list.new.rows ≡ checked table events = rw (c.in_ok-reading.ensures.1, list.1) refl in
    past_table table events room (checked table events) (Ok (checked_of c.in_ok-reading.reading c.check_list.new.rows))
    c.in_ok-check_lengths.ensures.0 c.in_ok-reading.ensures.0 (list.0, same)
