-- The run on arrays that have room, and on the lent words: the same refusal, and else the same results, written over the lent bytes.
-- Assumes nothing.
use Prim.Native.Nat.{ℕ, ◌*◌, ◌/◌, ◌≤◌}
use mathlib.Core.Path.{◌≡◌, refl, sym, ◌∙◌, ap}
use mathlib.Core.Logic.{◌≢◌}
use mathlib.Core.List.{List, append-nil}
use native.Mathlib.Omega.{arith}
use lib.ListN.{length, take, replicate, drop_of_length-le}
use lib.IntN.{ℤ, pos}
use borrow.Author.Tests.{ne_eqb, le-ltb}
use Rattle.input.specs.declared.Answer.{Answer}
use Rattle.input.specs.declared.Refusal.{Refusal}
use Rattle.input.specs.Limits.{most_rows, most_events, report_words}
use Rattle.input.specs.Classes.{Table, tree_of}
use Rattle.input.specs.Events.{Events, count}
use Rattle.input.specs.Refusals.{given, nothing, first, room_refused}
use Rattle.rules.specs.Box.{Box}
use Rattle.rules.specs.Steps.{after}
use Rattle.rules.specs.Refused.{refused}
use Rattle.rules.specs.Outcome.{Lent, Outcome, report_of, lags_of, over, room_of, refusing, doing, outcome, Ran}
use Rattle.rules.proofs.Results.{report_length, lags_length}
use Rattle.laws.proofs.Tree.Trees.{tree_rows, first_none}
use Rattle.laws.proofs.Outcome.Results.{over_first, accepted_done, not_refused, done_left}
use Rattle.tables.proofs.Firsts.{given_plain}
use Rattle.std.specs.Prelude.{Err}
use Rattle.tables.specs.Judged.{Refuses}
use Rattle.checks.specs.Counted.{lengths_refused}
use Rattle.checks.proofs.Whole.{whole_sized, whole_listed}
use Rattle.events.proofs.Sending.{order_most}
use Rattle.engine.specs.Run.{left_of, answer_of}
use Rattle.engine.proofs.Accepting.{Roomy, roomy}
use Rattle.octets.specs.Octets.{bytes_of, signed_bytes_of}
use Rattle.octets.proofs.Laws.{length_words, length_signed, written_read, signed_written_read, over_bytes, over_signed, zero_bytes}
use Rattle.marginlilac.specs.Exported.{LentBytes, left_bytes, spare, spare_of, words_lent, answer_bytes, bytes_left}
use Rattle.marginlilac.specs.Held.{Held, Bytes, Sized}

-- ── an outcome ──

module _ (lent : Lent) where
  abbrev refusal : Refusal
  refusal = refused lent.table lent.events (room_of lent)

  abbrev last : Box
  last = after (tree_of lent.table) lent.events (count lent.events)

  does : refusal.number ≡ 0 → outcome lent ≡ doing lent (tree_of lent.table) last
  does none = done_left lent (outcome lent) refl (accepted_done lent (outcome lent) refl none)

  refuses : refusal.number ≢ 0 → outcome lent ≡ refusing lent refusal
  unfolding outcome
  refuses some = rw (ne_eqb refusal.number 0 some)

-- all that was lent is written over
pub over_all : (written lent : List ℕ) → length lent ≡ length written → over written lent ≡ written
unfolding over
over_all written lent same = rw (drop_of_length-le lent {i = length written} (omega arith)) (append-nil written)

-- ── lent bytes ──

-- so many words of the order, and the rest, have room in the lent bytes
pub record Fitting (lent : LentBytes) (sent : ℕ) : Type 0 where
  pub order_few : sent ≤ most_events
  pub order_room : 4 * sent ≤ length lent.order
  pub report_room : 8 * (report_words * (length lent.identifiers / 4)) ≤ length lent.report
  pub lags_room : 8 * (length lent.identifiers / 4) ≤ length lent.lags
  pub working_room : length lent.classes ≤ length lent.working

module _ (lent : LentBytes) (none_spare : spare_of lent ≡ 0) (bytes : Bytes lent) where
  order_back : bytes_of 4 (words_lent lent).order ≡ lent.order
  unfolding spare words_lent
  order_back = written_read 4 lent.order bytes.order (omega arith) (omega arith)

  report_back : bytes_of 8 (words_lent lent).report ≡ lent.report
  unfolding spare words_lent
  report_back = written_read 8 lent.report bytes.report (omega arith) (omega arith)

  lags_back : signed_bytes_of (words_lent lent).lags ≡ lent.lags
  unfolding spare words_lent
  lags_back = signed_written_read lent.lags bytes.lags (omega arith)

  working_back : bytes_of 4 (words_lent lent).working ≡ lent.working
  unfolding spare words_lent
  working_back = written_read 4 lent.working bytes.working (omega arith) (omega arith)

  -- of a refused input the bytes are as they were
  pub refused_bytes : (r : Refusal) → Refuses (refusal (words_lent lent)) r
      → left_bytes r.number lent.order lent.report lent.lags lent.working (answer_bytes (answer_of (Err r))) ≡ bytes_left (outcome (words_lent lent))
  unfolding bytes_left refusing
  refused_bytes r judged = rw (refuses (words_lent lent) judged.0, order_back, report_back, lags_back, working_back, judged.1)

-- ── the arrays ──

module _ (lent : LentBytes) (sized : Sized lent) where
  abbrev table : Table
  table = (words_lent lent).table

  abbrev events : Events
  events = (words_lent lent).events

  -- the numbers of rows and of events
  rows_are : length table.identifiers ≡ length lent.identifiers / 4
  unfolding words_lent
  rows_are = length_words 4 lent.identifiers

  events_are : count events ≡ length lent.classes / 4
  unfolding words_lent
  events_are = length_words 4 lent.classes

  pub held : Held lent.identifiers lent.parents lent.shares lent.classes lent.lengths
  unfolding words_lent
  held =
      let rows = whole_sized table events (room_of (words_lent lent)) sized.fine in
      let listed = whole_listed table events (room_of (words_lent lent)) sized.fine in
      record {
        few_rows = omega (arith, rows_are);
        few_parents = omega (arith, rows_are, length_words 4 lent.parents);
        few_shares = omega (arith, rows_are, length_words 4 lent.shares);
        few_events = omega (arith, events_are);
        few_lengths = omega (arith, events_are, length_words 4 lent.lengths);
      }

  -- the run's own arrays in place of the lent words
  abbrev arrays : Lent
  arrays =
      record {
        table = table;
        events = events;
        order = replicate most_events 0;
        report = replicate (report_words * most_rows) 0;
        lags = replicate most_rows (pos 0);
        working = replicate most_events 0;
      }

  arrays_room : room_refused (length table.identifiers) (count events) (room_of arrays) ≡ nothing
  unfolding room_refused given room_of
  arrays_room =
      let rows = length table.identifiers in
      let few_rows = held.few_rows in
      let few_events = held.few_events in
      rw (
        le-ltb most_events (count events) (omega (arith, events_are)),
        le-ltb (report_words * most_rows) (report_words * rows) (omega (arith, rows_are)),
        le-ltb most_rows rows (omega (arith, rows_are)),
      )

  lent_room : room_refused (length table.identifiers) (count events) (room_of (words_lent lent)) ≡ nothing
  unfolding room_refused lengths_refused
  lent_room = given_plain _ 3 0 (omega arith) (first_none _ sized.fine).1.1.0

  same_refusal : refusal arrays ≡ refusal (words_lent lent)
  unfolding refused first
  same_refusal = rw (arrays_room, lent_room)

  -- what a run on the arrays says of the lent bytes
  module _ (r : Answer) (order' report' : List ℕ) (lags' : List ℤ) (working' : List ℕ) (ran : Ran arrays (left_of r order' report' lags' working')) where
    pub run_refused : r.number ≢ 0
        → left_bytes r.number lent.order lent.report lent.lags lent.working (answer_bytes r) ≡ bytes_left (outcome (words_lent lent))
    unfolding refusing
    run_refused some =
        let left = left_of r order' report' lags' working' in
        let refuse : (refusal arrays).number ≢ 0 = λ none. some (accepted_done arrays left ran none) in
        let answer = ap (λ (o : Outcome). o.answer) (ran ∙ refuses arrays refuse) in
        rw answer (refused_bytes lent sized.none_spare sized.bytes (refusal arrays) (rw (← same_refusal) refuse, same_refusal))

    module _ (done : r.number ≡ 0) where
      passed : (refusal (words_lent lent)).number ≡ 0
      passed = rw same_refusal at (not_refused arrays (left_of r order' report' lags' working') ran done)

      left_is : left_of r order' report' lags' working' ≡ doing arrays (tree_of table) (last arrays)
      left_is = done_left arrays (left_of r order' report' lags' working') ran done

      room : Roomy table events (room_of (words_lent lent))
      room = roomy table events (room_of (words_lent lent)) passed

      sent : r.count ≡ length (last arrays).order
      unfolding doing
      sent = ap (λ (o : Outcome). o.answer.count) left_is

      sent_few : r.count ≤ count events
      sent_few = rw sent (order_most (tree_of table) events (count events))

      pub run_fits : Fitting lent r.count
      unfolding words_lent room_of spare
      run_fits =
          let few = held.few_events in
          let none_spare = sized.none_spare in
          record {
            order_few = omega (arith, sent_few, events_are);
            order_room = omega (arith, sent_few, room.order_room, length_words 4 lent.order);
            report_room = omega (arith, rows_are, room.report_room, length_words 8 lent.report);
            lags_room = omega (arith, rows_are, room.lags_room, length_signed lent.lags);
            working_room = omega (arith, events_are, room.working_room, length_words 4 lent.working);
          }

      rows_all : (tree_of table).rows ≡ length lent.identifiers / 4
      rows_all = tree_rows table ∙ rows_are

      -- what is written back
      order_done : over (bytes_of 4 (take r.count order')) lent.order ≡ bytes_of 4 (outcome (words_lent lent)).order
      unfolding doing
      order_done =
          rw (ap (λ (o : Outcome). o.order) left_is, sent, over_first (last arrays).order arrays.order, does (words_lent lent) passed)
          (sym (over_bytes 4 (last arrays).order (words_lent lent).order lent.order (order_back lent sized.none_spare sized.bytes)))

      report_done : over (bytes_of 8 (take (report_words * (length lent.identifiers / 4)) report')) lent.report ≡ bytes_of 8 (outcome (words_lent lent)).report
      unfolding doing
      report_done =
          let rows = report_of (tree_of table) (last arrays) (tree_of table).rows in
          let long = sym (report_length (tree_of table) (last arrays) (tree_of table).rows ∙ ap (λ (n : ℕ). report_words * n) rows_all) in
          rw (
            ap (λ (o : Outcome). o.report) left_is,
            long,
            over_first rows arrays.report,
            does (words_lent lent) passed,
          )
          (sym (over_bytes 8 rows (words_lent lent).report lent.report (report_back lent sized.none_spare sized.bytes)))

      lags_done : over (signed_bytes_of (take (length lent.identifiers / 4) lags')) lent.lags ≡ signed_bytes_of (outcome (words_lent lent)).lags
      unfolding doing
      lags_done =
          let rows = lags_of (tree_of table) (last arrays) (tree_of table).rows in
          let long = sym (lags_length (tree_of table) (last arrays) (tree_of table).rows ∙ rows_all) in
          rw (
            ap (λ (o : Outcome). o.lags) left_is,
            long,
            over_first rows arrays.lags,
            does (words_lent lent) passed,
          )
          (sym (over_signed rows (words_lent lent).lags lent.lags (lags_back lent sized.none_spare sized.bytes)))

      working_done : over (replicate (length lent.classes) 0) lent.working ≡ bytes_of 4 (outcome (words_lent lent)).working
      unfolding doing spare
      working_done =
          let none_spare = sized.none_spare in
          let all : length lent.classes ≡ 4 * count events = omega (arith, events_are) in
          rw (all, ← zero_bytes 4 (count events), does (words_lent lent) passed)
          (sym (over_bytes 4 (replicate (count events) 0) (words_lent lent).working lent.working (working_back lent none_spare sized.bytes)))

      answer_done : r ≡ (outcome (words_lent lent)).answer
      unfolding doing
      answer_done = rw (does (words_lent lent) passed) (ap (λ (o : Outcome). o.answer) left_is)

      pub run_done : (order'' report'' lags'' working'' : List ℕ)
          → order'' ≡ over (bytes_of 4 (take r.count order')) lent.order
          → report'' ≡ over (bytes_of 8 (take (report_words * (length lent.identifiers / 4)) report')) lent.report
          → lags'' ≡ over (signed_bytes_of (take (length lent.identifiers / 4) lags')) lent.lags
          → working'' ≡ over (replicate (length lent.classes) 0) lent.working
          → left_bytes r.number order'' report'' lags'' working'' (answer_bytes r) ≡ bytes_left (outcome (words_lent lent))
      unfolding bytes_left
      run_done order'' report'' lags'' working'' o p l w = rw (o ∙ order_done, p ∙ report_done, l ∙ lags_done, w ∙ working_done, answer_done)
