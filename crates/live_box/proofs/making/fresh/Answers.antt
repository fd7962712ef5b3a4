-- `fresh` meets its contract: the refusals in their order, then the table's fresh state.
-- Assumes nothing.
use Prim.Native.Nat.{◌≤◌}
use mathlib.Core.Path.{refl, sym, ap}
use native.Mathlib.Omega.{arith}
use lib.ListN.{length}
use Rattle.input.specs.Classes.{Table}
use Rattle.input.specs.Lent.{table_of}
use Rattle.tables.specs.Answers.{accepting}
use Rattle.tables.specs.declared.Reading.{Reading}
use Rattle.tables.proofs.Answering.{sized}
use Rattle.tables.proofs.Judging.{handed_number}
use Rattle.live_rules.specs.Layout.{state_words}
use Rattle.live_box.proofs.FreshOutcome.{handed_left, rows_first, short_left, table_first, made_left}
use Rattle.live_box.proofs.making.fresh.Goals as goal

pub returns-in_err-rows_refused : goal.returns-in_err-rows_refused
returns-in_err-rows_refused c =
    let table : Table = table_of c.args.identifiers.now c.args.parent_identifiers.now c.args.shares.now in
    let refused = rows_first table c.args.state.now _ (c.in_err-rows_refused.ensures table refl refl refl) in
    record {
      numbered = handed_number _ c.from_residual.result _ c.from_residual.ensures.1 refused;
      made = handed_left table c.args.state.now _ c.from_residual.result c.from_residual.ensures.1 refused;
    }

pub returns-then-state-lt-STATE_WORDS : goal.returns-then-state-lt-STATE_WORDS
returns-then-state-lt-STATE_WORDS c =
    let table : Table = table_of c.args.identifiers.now c.args.parent_identifiers.now c.args.shares.now in
    let equal = c.in_ok-rows_refused.ensures table refl refl refl in
    record {
      numbered = rw c.refusal.ensures (λ none. omega arith);
      made = short_left table c.args.state.now equal.0 c.refusal.result c.refusal.ensures c.if-state-lt-STATE_WORDS.true;
    }

pub read_sized-requires : goal.read_sized-requires
read_sized-requires c =
    let table : Table = table_of c.args.identifiers.now c.args.parent_identifiers.now c.args.shares.now in
    sized table (c.in_ok-rows_refused.ensures table refl refl refl).0

pub returns-in_err-reading : goal.returns-in_err-reading
returns-in_err-reading c =
    let table : Table = table_of c.args.identifiers.now c.args.parent_identifiers.now c.args.shares.now in
    let equal = c.in_ok-rows_refused.ensures table refl refl refl in
    let room : state_words ≤ length c.args.state.now = omega (arith, c.if-state-lt-STATE_WORDS.false) in
    let handed = c.from_residual-in_err-reading in
    let refused = table_first table c.args.state.now equal.0 room _ c.in_err-reading.ensures in
    record {
      numbered = handed_number _ handed.result _ handed.ensures.1 refused;
      made = handed_left table c.args.state.now _ handed.result handed.ensures.1 refused;
    }

pub store_fresh-requires : goal.store_fresh-requires
store_fresh-requires c =
    let table : Table = table_of c.args.identifiers.now c.args.parent_identifiers.now c.args.shares.now in
    let equal = c.in_ok-rows_refused.ensures table refl refl refl in
    record { rows_few = (sized table equal.0).most; state_room = omega (arith, c.if-state-lt-STATE_WORDS.false) }

pub returns : goal.returns
unfolding accepting
returns c =
    let table : Table = table_of c.args.identifiers.now c.args.parent_identifiers.now c.args.shares.now in
    let equal = c.in_ok-rows_refused.ensures table refl refl refl in
    let room : state_words ≤ length c.args.state.now = omega (arith, c.if-state-lt-STATE_WORDS.false) in
    let read = c.in_ok-reading.ensures in
    record {
      numbered = tt;
      made = made_left table c.args.state.now equal.0 room _ read.0 (c.store_fresh.ensures table refl (sym (ap (λ (r : Reading). r.tree) read.1)));
    }
