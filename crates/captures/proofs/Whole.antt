-- The replay of a capture as a whole: what is refused before its packets are replayed, and what their replay comes to.
-- Assumes nothing.
use Prim.Native.Nat.{ℕ, zero, suc, ◌+◌, ◌*◌, ◌^◌, ◌≤◌, ◌<◌}
use mathlib.Core.Path.{◌≡◌, refl, sym, ap, ◌∙◌, subst}
use mathlib.Core.Logic.{◌≢◌}
use mathlib.Core.Bool.{Bool, true, false, cond}
use Rattle.std.specs.Prelude.{Result, Ok, Err}
use mathlib.Core.List.{List}
use mathlib.Mathlib.Data.Bool.Basic.{or-eq-false-eq-eq-false-and-eq-false as or-is-false}
use native.Mathlib.Decide.{dec_lt}
use native.Mathlib.Nat.{div-add-mod}
use native.Mathlib.Omega.{arith}
use lib.Dec.{ltb, eqb}
use lib.ListN.{length, get_or, take, drop, get_or-eq_default, length-take}
use lib.Seq.{take_at, get_or-take}
use borrow.Author.Tests.{ltb-false}
use Rattle.input.specs.declared.Refusal.{Refusal}
use Rattle.input.specs.Classes.{Table, tree_of}
use Rattle.input.specs.Events.{Events, count}
use Rattle.input.specs.Refusals.{Room, or_else}
use Rattle.input.specs.Lent.{events_of, room_with}
use Rattle.rules.specs.Outcome.{Outcome, over, room_of, refusing}
use Rattle.laws.proofs.Tree.Trees.{given_none}
use Rattle.tables.specs.Judged.{Refuses, Judged}
use Rattle.tables.proofs.Judging.{judged_as}
use Rattle.tables.proofs.Firsts.{or_else_first, or_else_second}
use Rattle.checks.specs.Counted.{SlicesOf, lengths_refused}
use Rattle.checks.proofs.Whole.{whole_listed}
use Rattle.engine.specs.Run.{left_of, answer_of}
use Rattle.pcap.specs.declared.Sorting.{Sorting}
use Rattle.pcap.specs.Records.{ended, records_below, most_records, record_count}
use Rattle.pcap.specs.Faults.{capture_refused}
use Rattle.pcap.specs.Lists.{Stamped, Arrivals, arrivals_with, packets, list_of}
use Rattle.pcap.specs.Outcomes.{CaptureLent, CaptureLeft, arrivals_of, captured_list, run_lent, list_refused, list_over, having_run, Replays}
use Rattle.records.specs.declared.Scan.{Scan}
use Rattle.records.specs.Scans.{Scans}
use Rattle.records.specs.Reads.{Found, Reads}
use Rattle.records.proofs.Answering.{found}
use Rattle.records.proofs.Turns.{stamps_long, classes_long, lengths_long}
use Rattle.captures.specs.Lent.{capture_left, lent_with}
use Rattle.captures.specs.Replayed.{Replayed}
use Rattle.captures.proofs.Refusing.{captured_refused, captured_run, found_first, none_first, before_none}
use Rattle.captures.proofs.Packets.{list_count, list_even}

-- ── how many records there are ──

pub below_most : (capture : List ℕ) (n : ℕ) → records_below capture n ≤ n
unfolding records_below
below_most capture zero = omega arith
below_most capture (suc n) = go (ended capture n) (below_most capture n)
  where
    go : (b : Bool) → records_below capture n ≤ n → records_below capture n + cond b 0 1 ≤ suc n
    go true before = omega arith
    go false before = omega arith

-- each has a header
count_most : (capture : List ℕ) → 16 * record_count capture ≤ length capture
unfolding record_count
count_most capture = omega (arith, below_most capture (most_records capture), div-add-mod (length capture) 16)

pub scan_most : (capture : List ℕ) (rate : ℕ) (scan : Scan) → Scans capture rate (Ok scan) → 16 * scan.records ≤ length capture
scan_most capture rate scan is = omega (arith, count_most capture, ap (λ (s : Scan). s.records) is.1)

-- ── what is refused before the packets are replayed ──

-- an error has a number
pub some_of : (refused r : Refusal) → Refuses refused r → r.number ≢ 0
some_of refused r refuses none = refuses.0 (ap (λ (x : Refusal). x.number) (sym refuses.1) ∙ none)

-- the capture's own refusal comes first
pub own_refused : (lent : CaptureLent) (r : Refusal) → Scans lent.capture lent.rate (Err r)
    → (r.number ≢ 0) × Replays lent (capture_left lent.list (left_of (answer_of (Err r)) lent.order lent.report lent.lags lent.working))
unfolding refusing run_lent
own_refused lent r is =
    let some = some_of (capture_refused lent.capture lent.rate) r is in
    let first = or_else_first (capture_refused lent.capture lent.rate) _ is.0 in
    (some, sym (captured_refused lent r (found_first lent r (is.1 ∙ sym first) some) some))

module _ (lent : CaptureLent) (scan : Scan) (is : Scans lent.capture lent.rate (Ok scan)) where
  abbrev list : Events
  list = captured_list lent

  abbrev room : Room
  room = room_with (length lent.order) (length lent.report) (length lent.lags) (length lent.working)

  abbrev own : Refusal
  own = capture_refused lent.capture lent.rate

  -- what the first look says of any lists of as many words
  abbrev First : Result (Unit {0}) Refusal → Type 0
  First result =
      (table : Table) (events : Events)
      → SlicesOf table events (length lent.table.identifiers) (length lent.table.parent_identifiers) (length lent.table.shares) (2 * scan.records) (2 * scan.records)
      → Judged (or_else (lengths_refused table events room) (list_refused (2 * scan.records) (length lent.list.classes) (length lent.list.lengths))) tt result

  pub found_here : Found lent.capture scan.layout scan.records
  found_here = found lent.capture lent.rate scan is

  pub arrivals_long : packets (arrivals_of lent.capture lent.sorting) ≡ record_count lent.capture
  unfolding arrivals_of
  arrivals_long = stamps_long lent.capture lent.sorting (record_count lent.capture)

  count_is : count list ≡ 2 * scan.records
  unfolding captured_list
  count_is =
      omega (arith, list_count (tree_of lent.table) (arrivals_of lent.capture lent.sorting) lent.rate, arrivals_long, found_here.counted)

  even_is : length list.lengths ≡ 2 * scan.records
  unfolding captured_list
  even_is =
      omega (arith, list_even (tree_of lent.table) (arrivals_of lent.capture lent.sorting) lent.rate, arrivals_long, found_here.counted)

  room_is : room_of (run_lent lent list) ≡ room
  unfolding room_of run_lent
  room_is = refl

  -- it is the replay's, of the list that the capture makes
  abbrev whole_first : Refusal
  whole_first = or_else own (or_else (lengths_refused lent.table list (room_of (run_lent lent list))) (list_refused (count list) (length lent.list.classes) (length lent.list.lengths)))

  first_is : (result : Result (Unit {0}) Refusal) → First result → Judged whole_first tt result
  first_is result look =
      judged_as _ whole_first tt result (rw (room_is, count_is) (sym (or_else_second own _ is.0)))
      (look lent.table list (record { rows_are = refl; parents_are = refl; shares_are = refl; events_are = count_is; lengths_are = even_is }))

  -- refused: nothing is changed
  pub refused_captured : (r : Refusal) → First (Err r)
      → (r.number ≢ 0) × Replays lent (capture_left lent.list (left_of (answer_of (Err r)) lent.order lent.report lent.lags lent.working))
  unfolding refusing run_lent
  refused_captured r look =
      let first = first_is (Err r) look in
      let some = some_of whole_first r first in
      (some, sym (captured_refused lent r (found_first lent r first.1 some) some))

  -- not refused
  module _ (look : First (Ok tt)) where
    passed : (own.number ≡ 0) × ((lengths_refused lent.table list (room_of (run_lent lent list))).number ≡ 0)
        × ((list_refused (count list) (length lent.list.classes) (length lent.list.lengths)).number ≡ 0)
    passed = none_first lent whole_first refl (first_is (Ok tt) look).0

    pub lengths_pass : (lengths_refused lent.table list room).number ≡ 0
    lengths_pass = rw room_is at passed.1

    room_for : (2 * scan.records ≤ length lent.list.classes) × (2 * scan.records ≤ length lent.list.lengths)
    unfolding list_refused
    room_for =
        let tests = (or-is-false (ltb (length lent.list.classes) (count list)) (ltb (length lent.list.lengths) (count list))).0 (given_none _ _ _ passed.2) in
        let size = count_is in
        (omega (arith, size, ltb-false (length lent.list.classes) (count list) tests.0), omega (arith, size, ltb-false (length lent.list.lengths) (count list) tests.1))

    pub classes_room : 2 * scan.records ≤ length lent.list.classes
    classes_room = room_for.0

    pub lengths_room : 2 * scan.records ≤ length lent.list.lengths
    lengths_room = room_for.1

    -- the run of the capture's list is the replay's
    pub run_captured : (ran : Outcome) (classes' lengths' : List ℕ)
        → Replayed (lent_with lent.table list lent.order lent.report lent.lags lent.working) lent.list.classes lent.list.lengths ran classes' lengths'
        → Replays lent (capture_left (events_of classes' lengths') ran)
    unfolding having_run list_over run_lent
    run_captured ran classes' lengths' replayed =
        sym
        (captured_run lent (before_none lent passed.0 passed.1 passed.2)
        ∙ rw (← replayed.run_is) (sym (both (eqb ran.answer.number 0) classes' lengths' replayed.classes_are replayed.lengths_are)))
      where
        both : (b : Bool) (c l : List ℕ) → c ≡ cond b (over list.classes lent.list.classes) lent.list.classes
            → l ≡ cond b (over list.lengths lent.list.lengths) lent.list.lengths
            → ◌≡◌ {A = CaptureLeft} (record { list = events_of c l; run = ran })
            (record { list = cond b (events_of (over list.classes lent.list.classes) (over list.lengths lent.list.lengths)) lent.list; run = ran })
        both true c l c_is l_is = rw (c_is, l_is)
        both false c l c_is l_is = rw (c_is, l_is)

-- ── the records as they were read ──

taken : (written lent left : List ℕ) (n : ℕ) → length written ≡ n → left ≡ over written lent → take n left ≡ written
unfolding over
taken written lent left n size is = rw is (take_at written (drop (length written) lent) n size)

module _ (capture : List ℕ) (sorting : Sorting) (lent left : Arrivals) (reads : Reads capture sorting lent left) (n : ℕ) (n_is : n ≡ record_count capture) where
  pub arrivals_read : arrivals_with (take n left.stamps) (take n left.classes) (take n left.lengths) ≡ arrivals_of capture sorting
  unfolding arrivals_of
  arrivals_read =
      rw (
        taken (arrivals_of capture sorting).stamps lent.stamps left.stamps n (stamps_long capture sorting (record_count capture) ∙ sym n_is) reads.stamps,
        taken (arrivals_of capture sorting).classes lent.classes left.classes n (classes_long capture sorting (record_count capture) ∙ sym n_is) reads.classes,
        taken (arrivals_of capture sorting).lengths lent.lengths left.lengths n (lengths_long capture sorting (record_count capture) ∙ sym n_is) reads.lengths,
      )

  pub stamps_small : Stamped (take n left.stamps)
  stamps_small k = go (dec_lt k n)
    where
      go : Dec (k < n) → get_or (take n left.stamps) k 0 < 2 ^ 53
      go (yes inside) = rw (get_or-take n left.stamps k 0 inside) (reads.small k (omega (arith, n_is)))
      go (no beyond) =
          rw (get_or-eq_default (take n left.stamps) 0 {n = k} (omega (arith, length-take n left.stamps))) (omega arith)

-- ── the packets' replay ──

module _ (lent : CaptureLent) (scan : Scan) (is : Scans lent.capture lent.rate (Ok scan)) (look : First lent scan is (Ok tt)) where
  pub few_records : scan.records ≤ 32768
  few_records =
      let fine = lengths_pass lent scan is look in
      omega (arith, (whole_listed lent.table (captured_list lent) (room lent scan is) fine).few, counted_here)
    where
      counted_here : count (captured_list lent) ≡ 2 * scan.records
      counted_here = count_is lent scan is

  module _ (before left : Arrivals) (reads : Reads lent.capture lent.sorting before left) where
    abbrev arrivals : Arrivals
    arrivals = arrivals_with (take scan.records left.stamps) (take scan.records left.classes) (take scan.records left.lengths)

    same_list : list_of (tree_of lent.table) arrivals lent.rate ≡ captured_list lent
    unfolding captured_list
    same_list =
        ap (λ (a : Arrivals). list_of (tree_of lent.table) a lent.rate)
        (arrivals_read lent.capture lent.sorting before left reads scan.records (found_here lent scan is).counted)

    pub packets_pass : (lengths_refused lent.table (list_of (tree_of lent.table) arrivals lent.rate) (room lent scan is)).number ≡ 0
    packets_pass = rw same_list (lengths_pass lent scan is look)

    pub packets_run : (ran : Outcome) (classes' lengths' : List ℕ)
        → Replayed (lent_with lent.table (list_of (tree_of lent.table) arrivals lent.rate) lent.order lent.report lent.lags lent.working) lent.list.classes lent.list.lengths ran classes' lengths'
        → Replays lent (capture_left (events_of classes' lengths') ran)
    packets_run ran classes' lengths' replayed =
        run_captured lent scan is look ran classes' lengths'
        (subst
        (λ (x : Events).
        Replayed (lent_with lent.table x lent.order lent.report lent.lags lent.working) lent.list.classes lent.list.lengths ran classes' lengths')
        same_list replayed)
