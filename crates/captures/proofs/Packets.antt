-- Packets that arrive at given moments, replayed: refused by the table or by their list, or run.
-- Assumes nothing.
use Prim.Native.Nat.{ℕ, ◌*◌, ◌≤◌}
use mathlib.Core.Path.{◌≡◌, refl, sym, ap, ◌∙◌, subst}
use mathlib.Core.Logic.{◌≢◌}
use mathlib.Core.List.{List, []}
use native.Mathlib.Omega.{arith}
use lib.ListN.{length, take}
use lib.IntN.{ℤ}
use borrow.Author.Tests.{ne_eqb, le-ltb}
use Rattle.std.specs.Prelude.{Result, Ok, Err}
use Rattle.input.specs.declared.Refusal.{Refusal}
use Rattle.input.specs.Limits.{report_words, most_events}
use Rattle.input.specs.Classes.{Table, Tree, tree_of}
use Rattle.input.specs.Events.{Events, count}
use Rattle.input.specs.Refusals.{Room, nothing, given, or_else, first, first_below, rows_refused, events_refused, room_refused, table_refused}
use Rattle.input.specs.Lent.{events_of, room_with}
use Rattle.arrays.specs.Arrays.{tree_in}
use Rattle.rules.specs.Outcome.{Lent, Outcome, room_of, refusing}
use Rattle.rules.specs.Refused.{event_refused, refused}
use Rattle.tables.specs.declared.Reading.{Reading}
use Rattle.tables.specs.Answers.{accepting}
use Rattle.tables.specs.Judged.{Refuses}
use Rattle.tables.proofs.Firsts.{or_else_second}
use Rattle.checks.specs.Counted.{lengths_refused}
use Rattle.checks.proofs.Whole.{by_table, whole_rows, whole_listed}
use Rattle.checks.proofs.Rooted.{known}
use Rattle.engine.specs.Run.{left_of, answer_of}
use Rattle.engine.proofs.Accepting.{same_tree, fit}
use Rattle.pcap.specs.Lists.{Arrivals, packets, list_of}
use Rattle.pcap.proofs.Listing.{listed_count, listed_even}
use Rattle.listing.specs.Reached.{Ground, Lists}
use Rattle.captures.specs.Lent.{lent_with}
use Rattle.captures.specs.Replayed.{Replayed}
use Rattle.captures.proofs.Refusing.{run_refused, by_an_event}

-- ── refused ──

pub refused_replayed : (lent : Lent) (r : Refusal) → refused lent.table lent.events (room_of lent) ≡ r → r.number ≢ 0 → (classes lengths : List ℕ)
    → Replayed lent classes lengths (left_of (answer_of (Err r)) lent.order lent.report lent.lags lent.working) classes lengths
unfolding refusing
refused_replayed lent r is some classes lengths =
    record {
      run_is = sym (run_refused lent r is some);
      classes_are = rw (ne_eqb r.number 0 some);
      lengths_are = rw (ne_eqb r.number 0 some);
    }

-- ── the list's size ──

pub list_count : (tree : Tree) (arrivals : Arrivals) (rate : ℕ) → count (list_of tree arrivals rate) ≡ 2 * packets arrivals
unfolding list_of
list_count tree arrivals rate = listed_count tree arrivals rate (2 * packets arrivals)

pub list_even : (tree : Tree) (arrivals : Arrivals) (rate : ℕ) → length (list_of tree arrivals rate).lengths ≡ 2 * packets arrivals
unfolding list_of
list_even tree arrivals rate = listed_even tree arrivals rate (2 * packets arrivals)

-- ── the table ──

module _ (table : Table) (rows_ok : (rows_refused table).number ≡ 0) where
  -- with no events it is not refused
  none_refused : (table_refused table).number ≡ 0
      → (refused table (events_of [] []) (room_with 0 (report_words * length table.identifiers) (length table.identifiers) 0)).number ≡ 0
  unfolding refused events_refused room_refused first first_below given nothing
  none_refused fine =
      let n = length table.identifiers in
      rw (
        or_else_second (rows_refused table) _ rows_ok,
        le-ltb (report_words * n) (report_words * n) (omega arith),
        le-ltb n n (omega arith),
        or_else_second (table_refused table) _ fine,
      )
      (unfold or_else in refl)

  module _ (reading : Reading) (is : reading ≡ accepting (tree_of table)) (fine : (table_refused table).number ≡ 0) where
    pub tree_same : tree_in (length table.identifiers) table.identifiers reading.tree ≡ tree_of table
    unfolding accepting
    tree_same = same_tree table reading.tree (ap (λ (r : Reading). r.tree) is)

    pub ground : Ground (tree_in (length table.identifiers) table.identifiers reading.tree) table.identifiers reading.senders
    unfolding accepting
    ground =
        let all = known table rows_ok fine in
        rw (tree_same, ap (λ (r : Reading). r.senders) is)
        (record { fit = fit table (events_of [] []) _ (none_refused fine); known = all })

-- ── replayed ──

module _ (table : Table) (arrivals : Arrivals) (rate : ℕ) (order report : List ℕ) (lags : List ℤ) (working : List ℕ) where
  abbrev list : Events
  list = list_of (tree_of table) arrivals rate

  abbrev lent : Lent
  lent = lent_with table list order report lags working

  abbrev room : Room
  room = room_with (length order) (length report) (length lags) (length working)

  room_is : room_of lent ≡ room
  unfolding room_of
  room_is = refl

  module _ (lengths_ok : (lengths_refused table list room).number ≡ 0) where
    pub few_packets : 2 * packets arrivals ≤ most_events
    few_packets = omega (arith, list_count (tree_of table) arrivals rate, (whole_listed table list room lengths_ok).few)

    -- the table is refused
    pub table_replayed : (r : Refusal) → Refuses (table_refused table) r → (classes lengths : List ℕ)
        → Replayed lent classes lengths (left_of (answer_of (Err r)) order report lags working) classes lengths
    table_replayed r refuses classes lengths =
        rw refuses.1 (refused_replayed lent (table_refused table) (rw room_is (by_table table list room lengths_ok refuses.0)) refuses.0 classes lengths)

    module _ (reading : Reading) (is : reading ≡ accepting (tree_of table)) (fine : (table_refused table).number ≡ 0) where
      abbrev tree : Tree
      tree = tree_in (length table.identifiers) table.identifiers reading.tree

      same_tree_here : tree ≡ tree_of table
      same_tree_here = tree_same table (whole_rows table list room lengths_ok) reading is fine

      module _ (result : Result (Unit {0}) Refusal) (list_classes list_lengths : List ℕ) (lists : Lists tree arrivals rate result list_classes list_lengths) where
        own_lists : Lists (tree_of table) arrivals rate result list_classes list_lengths
        own_lists = subst (λ (t : Tree). Lists t arrivals rate result list_classes list_lengths) same_tree_here lists

      -- an event is refused
      pub event_replayed : (r : Refusal) (list_classes list_lengths : List ℕ) → Lists tree arrivals rate (Err r) list_classes list_lengths → (classes lengths : List ℕ)
          → Replayed lent classes lengths (left_of (answer_of (Err r)) order report lags working) classes lengths
      event_replayed r list_classes list_lengths lists classes lengths =
          let own = own_lists (Err r) list_classes list_lengths lists in
          let same : r ≡ first_below (event_refused (tree_of table) list) (count list) = rw (list_count (tree_of table) arrivals rate) own.1 in
          let some : r.number ≢ 0 = λ none. own.0 (ap (λ (x : Refusal). x.number) (sym own.1) ∙ none) in
          refused_replayed lent r (rw room_is (by_an_event table list room lengths_ok fine (rw (← same) some) ∙ sym same)) some classes lengths

      -- the list is run
      pub list_replayed : (list_classes list_lengths : List ℕ) → Lists tree arrivals rate (Ok tt) list_classes list_lengths
          → (ran : Outcome) (classes lengths classes' lengths' : List ℕ)
          → Replayed (lent_with table (events_of (take (2 * packets arrivals) list_classes) (take (2 * packets arrivals) list_lengths)) order report lags working) classes lengths ran classes' lengths'
          → Replayed lent classes lengths ran classes' lengths'
      list_replayed list_classes list_lengths lists ran classes lengths classes' lengths' replayed =
          subst (λ (x : Events). Replayed (lent_with table x order report lags working) classes lengths ran classes' lengths') same replayed
        where
          same : events_of (take (2 * packets arrivals) list_classes) (take (2 * packets arrivals) list_lengths) ≡ list
          same = let own = own_lists (Ok tt) list_classes list_lengths lists in rw (own.classes_are, own.lengths_are)
