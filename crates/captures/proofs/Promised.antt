-- What is promised of every replay of a capture that is done: its results are the run's on the list that it gives, which is accepted, has an
-- arrival and a finish for each record, in the order of the stamps, and never a finish of nothing.
-- Assumes nothing.
use Prim.Native.Nat.{ℕ, suc, ◌+◌, ◌*◌, ◌≤◌, ◌<◌}
use mathlib.Core.Path.{◌≡◌, refl, ap, ◌∙◌}
use mathlib.Core.Logic.{◌≢◌, ◌⊎◌, inl, inr}
use mathlib.Core.Bool.{Bool, true, false}
use mathlib.Core.List.{List}
use native.Mathlib.Decide.{ℕ_discrete}
use native.Mathlib.Omega.{arith}
use lib.ListN.{length}
use borrow.Author.Tests.{eq-eqb, ne_eqb, ltb-false, lt-leb}
use Rattle.input.specs.declared.Event.TheVariants.{Arrival, Finish}
use Rattle.input.specs.Classes.{Tree, tree_of}
use Rattle.input.specs.Events.{Events, count, event}
use Rattle.rules.specs.Outcome.{refusing, outcome, Ran}
use Rattle.rules.specs.Box.{has_head}
use Rattle.rules.specs.Steps.{after}
use Rattle.rules.specs.Promise.{arrived, finish_count}
use Rattle.rules.specs.Refused.{event_refused}
use Rattle.laws.specs.History.{Accepted}
use Rattle.laws.proofs.Tree.Trees.{first_none, below_none, given_none, accepted}
use Rattle.laws.proofs.Event.Turns.{fewer}
use Rattle.laws.proofs.Outcome.Results.{not_refused}
use Rattle.laws.proofs.Run.History.{idle_counted, busy_counted}
use Rattle.pcap.specs.Records.{offset, ended, most_records, record_count, stamp, original}
use Rattle.pcap.specs.Records as fields
use Rattle.pcap.specs.Faults.{begun_refused, record_refused, records_refused, capture_refused}
use Rattle.pcap.specs.Lists.{Arrivals, Progress, packets, stamp_of, class_of, length_of, finishes, moment_next, progress, listed, list_of}
use Rattle.pcap.specs.Outcomes.{CaptureLent, CaptureLeft, arrivals_below, arrivals_of, captured_list, run_lent, before_run, list_over, having_run, captured, Replays}
use Rattle.pcap.proofs.Listing.{grown_at, event_listed, refused_listed}
use Rattle.pcap.proofs.Whole.{Ascending, finish_comes, arrival_comes, came, few_arrived, still_one, moments_ascend, never_fourteen}
use Rattle.records.proofs.Passing.{counted_inside}
use Rattle.records.proofs.Turns.{stamps_long}
use Rattle.captures.proofs.Packets.{list_count}
use Rattle.captures.proofs.Whole.{below_most}

-- a record that is counted passes
begun_passes : (capture : List ℕ) → (records_refused capture).number ≡ 0 → (k : ℕ) → k < record_count capture → (begun_refused capture k).number ≡ 0
unfolding records_refused record_refused record_count ended
begun_passes capture fine k inside =
    rw (lt-leb (length capture) (offset capture k) (counted_inside capture fine k inside)) at
    (below_none (record_refused capture) (most_records capture) fine k (omega (arith, below_most capture (most_records capture))))

-- no event of the list is refused with 14, whatever is lent
pub no_fourteen : (lent : CaptureLent) (i : ℕ) → i < count (captured_list lent) → (event_refused (tree_of lent.table) (captured_list lent) i).number ≢ 14
unfolding captured_list list_of
no_fourteen lent i inside =
    never_fourteen (tree_of lent.table) (arrivals_of lent.capture lent.sorting) lent.rate _ i
    (omega (arith, list_count (tree_of lent.table) (arrivals_of lent.capture lent.sorting) lent.rate))

module _ (lent : CaptureLent) (left : CaptureLeft) (is : Replays lent left) (done : left.run.answer.number ≡ 0) where
  abbrev list : Events
  list = captured_list lent

  nothing_before : (before_run lent list).number ≡ 0
  unfolding captured refusing
  nothing_before = go (ℕ_discrete (before_run lent list).number 0)
    where
      go : Dec ((before_run lent list).number ≡ 0) → (before_run lent list).number ≡ 0
      go (yes none) = none
      go (no some) = absurd (some (rw (is, ne_eqb (before_run lent list).number 0 some) at done))

  run_is : left ≡ having_run lent list (outcome (run_lent lent list))
  unfolding captured
  run_is = is ∙ rw (eq-eqb (before_run lent list).number 0 nothing_before)

  -- its order, report and lags are the run's on that list
  pub run_of_list : Ran (run_lent lent list) left.run
  unfolding having_run
  run_of_list = ap (λ (x : CaptureLeft). x.run) run_is

  -- which it gives
  pub list_given : left.list ≡ list_over list lent.list
  unfolding having_run
  list_given = ap (λ (x : CaptureLeft). x.list) run_is ∙ rw (eq-eqb (outcome (run_lent lent list)).answer.number 0 (rw run_of_list at done))

  abbrev tree : Tree
  tree = tree_of lent.table

  abbrev arrivals : Arrivals
  arrivals = arrivals_of lent.capture lent.sorting

  abbrev records : ℕ
  records = record_count lent.capture

  -- no event of it is refused
  pub list_accepted : Accepted tree list (count list)
  unfolding run_lent
  list_accepted = accepted lent.table list _ (not_refused (run_lent lent list) left.run run_of_list done)

  -- ── its records as arrivals ──

  own_fine : (capture_refused lent.capture lent.rate).number ≡ 0
  unfolding before_run
  own_fine = (first_none _ nothing_before).0

  records_fine : (records_refused lent.capture).number ≡ 0
  unfolding capture_refused
  records_fine = (first_none _ own_fine).1.0

  long : packets arrivals ≡ records
  unfolding arrivals_of
  long = stamps_long lent.capture lent.sorting records

  stamp_at : (k : ℕ) → k < records → stamp_of arrivals k ≡ stamp lent.capture k
  unfolding arrivals_of arrivals_below
  stamp_at k inside = grown_at (λ n. (arrivals_below lent.capture lent.sorting n).stamps) (stamp lent.capture) refl (λ n. refl) records k inside

  class_at : (k : ℕ) → k < records → class_of arrivals k ≡ fields.class_of lent.capture lent.sorting k
  unfolding arrivals_of arrivals_below
  class_at k inside =
      grown_at (λ n. (arrivals_below lent.capture lent.sorting n).classes) (fields.class_of lent.capture lent.sorting) refl (λ n. refl) records k inside

  length_at : (k : ℕ) → k < records → length_of arrivals k ≡ original lent.capture k
  unfolding arrivals_of arrivals_below
  length_at k inside = grown_at (λ n. (arrivals_below lent.capture lent.sorting n).lengths) (original lent.capture) refl (λ n. refl) records k inside

  -- no stamp is before the one above it
  stamps_ascend : Ascending arrivals
  unfolding begun_refused
  stamps_ascend k more =
      let inside : suc k < records = omega (arith, long) in
      let whole = begun_passes lent.capture records_fine (suc k) inside in
      let test = given_none _ _ _ (first_none _ whole).1.1.1.0 in
      rw (stamp_at k (omega arith), stamp_at (suc k) inside) (ltb-false (stamp lent.capture (suc k)) (stamp lent.capture k) test)

  -- ── the list ──

  size : count list ≡ 2 * records
  unfolding captured_list
  size = omega (arith, list_count tree arrivals lent.rate, long)

  abbrev now : ℕ → Progress
  now i = progress tree arrivals lent.rate i

  listed_accepted : (i : ℕ) → i ≤ 2 * records → Accepted tree (listed tree arrivals lent.rate (2 * packets arrivals)) i
  unfolding captured_list list_of
  listed_accepted i inside = fewer tree list i (count list) (omega (arith, size)) list_accepted

  -- so many packets have arrived before the event at place i
  came_before : (i : ℕ) → i ≤ 2 * records → ((now i).arrived ≡ arrived tree list 0 i) × ((now i).arrived + finish_count list i ≡ i)
  unfolding captured_list list_of
  came_before i inside = came tree arrivals lent.rate (2 * packets arrivals) i (omega (arith, long)) (listed_accepted i inside)

  few_before : (i : ℕ) → i ≤ 2 * records → (now i).arrived ≤ records
  few_before i inside =
      omega (arith, long, few_arrived tree arrivals lent.rate (2 * packets arrivals) i (omega (arith, long)) (omega (arith, long)) (listed_accepted i inside))

  -- the event at place i is the line's finish, or the arrival of the record that follows those which have arrived
  pub each_event : (i : ℕ) → i < 2 * records
      → (event list i ≡ Finish)
      ⊎ ((arrived tree list 0 i < records)
      × (event list i ≡ Arrival (fields.class_of lent.capture lent.sorting (arrived tree list 0 i)) (original lent.capture (arrived tree list 0 i))))
  unfolding captured_list list_of
  each_event i inside = go (finishes arrivals (now i)) refl
    where
      early : i < 2 * packets arrivals
      early = omega (arith, long)

      go : (b : Bool) → finishes arrivals (now i) ≡ b
          → (event list i ≡ Finish)
          ⊎ ((arrived tree list 0 i < records)
          × (event list i ≡ Arrival (fields.class_of lent.capture lent.sorting (arrived tree list 0 i)) (original lent.capture (arrived tree list 0 i))))
      go true finish = inl (event_listed tree arrivals lent.rate _ i early ∙ finish_comes tree arrivals lent.rate i finish)
      go false arrival =
          let here = (came_before i (omega arith)).0 in
          let more : (now i).arrived < records =
          omega (
            arith,
            long,
            still_one tree arrivals lent.rate (2 * packets arrivals) i early early (listed_accepted i (omega arith)) (omega (arith, long, few_before i (omega arith))) arrival,
          ) in
          let fine = rw (refused_listed tree arrivals lent.rate (2 * packets arrivals) i early) at ((listed_accepted (suc i) (omega arith)).each i (omega arith)) in
          inr
          (rw (← here) (
            more,
            event_listed tree arrivals lent.rate _ i early ∙ arrival_comes tree arrivals lent.rate i arrival fine
                ∙ rw (class_at (now i).arrived more, length_at (now i).arrived more),
          ))

  -- in all, an arrival and a finish for each record
  pub all_events : count list ≡ 2 * records
  all_events = size

  pub all_arrive : (arrived tree list 0 (count list) ≡ records) × (finish_count list (count list) ≡ records)
  all_arrive =
      let both = came_before (2 * records) (omega arith) in
      let most = few_before (2 * records) (omega arith) in
      let less = no_more in
      rw size (omega (arith, both, most, less), omega (arith, both, most, less))
    where
      go : (b : Bool) → has_head (after tree list (count list)).rows 0 ≡ b → finish_count list (count list) ≤ arrived tree list 0 (count list)
      go true busy = omega (arith, busy_counted tree list (count list) list_accepted busy)
      go false idles = omega (arith, idle_counted tree list (count list) list_accepted idles)

      no_more : finish_count list (2 * records) ≤ arrived tree list 0 (2 * records)
      no_more = rw (← size) (go (has_head (after tree list (count list)).rows 0) refl)

  -- each event has its moment, a record's stamp or when the line's packet is finished, and no event is before the one above it
  pub in_time : (i : ℕ) → suc i < 2 * records → moment_next arrivals (now i) ≤ moment_next arrivals (now (suc i))
  unfolding captured_list list_of
  in_time i inside =
      moments_ascend tree arrivals lent.rate stamps_ascend (2 * packets arrivals) i (omega (arith, long)) (omega (arith, long)) (listed_accepted (suc i) (omega arith))
