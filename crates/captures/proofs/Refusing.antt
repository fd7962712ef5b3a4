-- Which refusal the replay of a capture gives, by the order in which it looks, and that a refusal changes nothing.
-- Assumes nothing.
use mathlib.Core.Path.{◌≡◌, refl, sym, ap, ◌∙◌}
use mathlib.Core.Logic.{◌≢◌}
use mathlib.Core.Bool.{Bool, true, false, cond}
use native.Mathlib.Decide.{ℕ_discrete}
use lib.Dec.{eqb}
use lib.ListN.{length}
use borrow.Author.Tests.{eq-eqb, ne_eqb}
use Rattle.input.specs.declared.Refusal.{Refusal}
use Rattle.input.specs.Classes.{Table, tree_of}
use Rattle.input.specs.Events.{Events, count}
use Rattle.input.specs.Refusals.{Room, nothing, given, or_else, first, first_below, rows_refused, events_refused, room_refused, table_refused}
use Rattle.rules.specs.Outcome.{Lent, room_of, refusing, outcome}
use Rattle.rules.specs.Refused.{event_refused, refused}
use Rattle.laws.proofs.Tree.Trees.{or_none}
use Rattle.tables.proofs.Firsts.{or_else_first, or_else_second}
use Rattle.checks.specs.Counted.{lengths_refused}
use Rattle.pcap.specs.Outcomes.{CaptureLent, CaptureLeft, captured_list, run_lent, list_refused, before_run, having_run, captured}
use Rattle.pcap.specs.Faults.{capture_refused}

-- ── the run ──

-- what is refused of a list that is run
pub run_refused : (lent : Lent) (r : Refusal) → refused lent.table lent.events (room_of lent) ≡ r → r.number ≢ 0 → outcome lent ≡ refusing lent r
unfolding outcome
run_refused lent r is some = rw (is, ne_eqb r.number 0 some)

-- lengths and table pass, an event is refused
pub by_an_event : (table : Table) (events : Events) (room : Room) → (lengths_refused table events room).number ≡ 0 → (table_refused table).number ≡ 0
    → (first_below (event_refused (tree_of table) events) (count events)).number ≢ 0
    → refused table events room ≡ first_below (event_refused (tree_of table) events) (count events)
unfolding refused lengths_refused first
by_an_event table events room fine passes some =
    let rows = length table.identifiers in
    let a = rows_refused table in
    let b = events_refused events in
    let c = room_refused rows (count events) room in
    let one = or_none a (or_else b (or_else c nothing)) fine in
    let two = or_none b (or_else c nothing) one.1 in
    let three = or_none c nothing two.1 in
    or_else_second a _ one.0 ∙ or_else_second b _ two.0 ∙ or_else_second c _ three.0 ∙ or_else_second (table_refused table) _ passes
    ∙ or_else_first (first_below (event_refused (tree_of table) events) (count events)) nothing some

-- ── the capture ──

module _ (lent : CaptureLent) where
  abbrev list : Events
  list = captured_list lent

  abbrev before : Refusal
  before = before_run lent list

  abbrev in_run : Refusal
  in_run = refused lent.table list (room_of (run_lent lent list))

  -- what was lent comes back
  pub captured_refused : (r : Refusal) → or_else before in_run ≡ r → r.number ≢ 0
      → captured lent ≡ record { list = lent.list; run = refusing (run_lent lent list) r }
  unfolding captured having_run refusing run_lent captured_list
  captured_refused r is some = go (ℕ_discrete before.number 0)
    where
      left_alone : (x : Refusal) → x.number ≢ 0
          → having_run lent list (refusing (run_lent lent list) x) ≡ record { list = lent.list; run = refusing (run_lent lent list) x }
      left_alone x other = rw (ne_eqb x.number 0 other)

      go : Dec (before.number ≡ 0)
          → cond (eqb before.number 0) (having_run lent list (outcome (run_lent lent list))) (record { list = lent.list; run = refusing (run_lent lent list) before })
          ≡ record { list = lent.list; run = refusing (run_lent lent list) r }
      go (no early) =
          rw (ne_eqb before.number 0 early)
          (ap {B = CaptureLeft} (λ (x : Refusal). record { list = lent.list; run = refusing (run_lent lent list) x })
          (sym (or_else_first before in_run early) ∙ is))
      go (yes none) =
          let late = sym (or_else_second before in_run none) ∙ is in
          rw (eq-eqb before.number 0 none, run_refused (run_lent lent list) r late some) (left_alone r some)

  pub captured_run : before.number ≡ 0 → captured lent ≡ having_run lent list (outcome (run_lent lent list))
  unfolding captured
  captured_run none = rw (eq-eqb before.number 0 none)

-- ── what is looked for first ──

-- 3 is looked for once for the run's slices and once for the list's: the order of the two is all the same
threes : (a b : Bool) (rest : Refusal) → (or_else (or_else (given b 3 0) nothing) (given a 3 0)).number ≢ 0
    → or_else (or_else (given a 3 0) nothing) (or_else (given b 3 0) rest) ≡ or_else (or_else (given b 3 0) nothing) (given a 3 0)
unfolding or_else given nothing
threes true true rest some = refl
threes true false rest some = refl
threes false true rest some = refl
threes false false rest some = absurd (some refl)

-- and so where others come before them
after : (x p rest q : Refusal) (some : (or_else (or_else x p) q).number ≢ 0) (p' : Refusal)
    → ((or_else p q).number ≢ 0 → or_else p' rest ≡ or_else p q) → or_else (or_else x p') (or_else x rest) ≡ or_else (or_else x p) q
after x p rest q some p' later = go (ℕ_discrete x.number 0)
  where
    go : Dec (x.number ≡ 0) → or_else (or_else x p') (or_else x rest) ≡ or_else (or_else x p) q
    go (no early) =
        rw (or_else_first x p' early, or_else_first x p early) (or_else_first x (or_else x rest) early ∙ sym (or_else_first x q early))
    go (yes none) =
        rw (or_else_second x p' none, or_else_second x rest none, or_else_second x p none)
        (later (rw (or_else_second x p none) at some))

first_of_all : (s rows events : Refusal) (a b : Bool) (rest : Refusal)
    → (or_else s (or_else (or_else rows (or_else events (or_else (given b 3 0) nothing))) (given a 3 0))).number ≢ 0
    → or_else (or_else s (or_else rows (or_else events (or_else (given a 3 0) nothing)))) (or_else rows (or_else events (or_else (given b 3 0) rest)))
    ≡ or_else s (or_else (or_else rows (or_else events (or_else (given b 3 0) nothing))) (given a 3 0))
first_of_all s rows events a b rest some = go (ℕ_discrete s.number 0)
  where
    lengths : Refusal
    lengths = or_else rows (or_else events (or_else (given b 3 0) nothing))

    go : Dec (s.number ≡ 0)
        → or_else (or_else s (or_else rows (or_else events (or_else (given a 3 0) nothing)))) (or_else rows (or_else events (or_else (given b 3 0) rest)))
        ≡ or_else s (or_else lengths (given a 3 0))
    go (no early) =
        rw (or_else_first s (or_else rows (or_else events (or_else (given a 3 0) nothing))) early, or_else_first s (or_else lengths (given a 3 0)) early)
        (or_else_first s _ early)
    go (yes none) =
        rw (or_else_second s (or_else rows (or_else events (or_else (given a 3 0) nothing))) none, or_else_second s (or_else lengths (given a 3 0)) none)
        (after rows (or_else events (or_else (given b 3 0) nothing)) (or_else events (or_else (given b 3 0) rest)) (given a 3 0)
        (rw (or_else_second s (or_else lengths (given a 3 0)) none) at some) (or_else events (or_else (given a 3 0) nothing))
        (λ more.
        after events (or_else (given b 3 0) nothing) (or_else (given b 3 0) rest) (given a 3 0) more (or_else (given a 3 0) nothing) (λ last. threes a b rest last)))

-- the refusal that was found by the lengths alone is the replay's
pub found_first : (lent : CaptureLent)
    → (r : Refusal)
    → r ≡ or_else (capture_refused lent.capture lent.rate)
    (or_else (lengths_refused lent.table (captured_list lent) (room_of (run_lent lent (captured_list lent))))
    (list_refused (count (captured_list lent)) (length lent.list.classes) (length lent.list.lengths)))
    → r.number ≢ 0 → or_else (before_run lent (captured_list lent)) (refused lent.table (captured_list lent) (room_of (run_lent lent (captured_list lent)))) ≡ r
unfolding before_run refused lengths_refused list_refused room_refused first
found_first lent r is some =
    first_of_all (capture_refused lent.capture lent.rate) (rows_refused lent.table) (events_refused (captured_list lent)) _ _ _ (rw is at some) ∙ sym is

-- where nothing was found, nothing is refused before the run, and all lengths fit
pub none_first : (lent : CaptureLent)
    → (r : Refusal)
    → r ≡ or_else (capture_refused lent.capture lent.rate)
    (or_else (lengths_refused lent.table (captured_list lent) (room_of (run_lent lent (captured_list lent))))
    (list_refused (count (captured_list lent)) (length lent.list.classes) (length lent.list.lengths)))
    → r.number ≡ 0
    → ((capture_refused lent.capture lent.rate).number ≡ 0)
    × ((lengths_refused lent.table (captured_list lent) (room_of (run_lent lent (captured_list lent)))).number ≡ 0)
    × ((list_refused (count (captured_list lent)) (length lent.list.classes) (length lent.list.lengths)).number ≡ 0)
none_first lent r is none =
    let own = or_none (capture_refused lent.capture lent.rate) _ (rw is at none) in
    let rest = or_none (lengths_refused lent.table (captured_list lent) (room_of (run_lent lent (captured_list lent)))) _ own.1 in
    (own.0, rest.0, rest.1)

pub before_none : (lent : CaptureLent) → (capture_refused lent.capture lent.rate).number ≡ 0
    → (lengths_refused lent.table (captured_list lent) (room_of (run_lent lent (captured_list lent)))).number ≡ 0
    → (list_refused (count (captured_list lent)) (length lent.list.classes) (length lent.list.lengths)).number ≡ 0
    → (before_run lent (captured_list lent)).number ≡ 0
unfolding before_run lengths_refused first
before_none lent own lengths room =
    let a = rows_refused lent.table in
    let b = events_refused (captured_list lent) in
    let one = or_none a _ lengths in
    let two = or_none b _ one.1 in
    rw (
      or_else_second (capture_refused lent.capture lent.rate) _ own,
      or_else_second a _ one.0,
      or_else_second b _ two.0,
      or_else_second (list_refused (count (captured_list lent)) (length lent.list.classes) (length lent.list.lengths)) nothing room,
    )
    (unfold nothing in refl)
