-- What an event meets: its class's row as the code finds it, and the counts and rows after it.
-- Assumes nothing.
use Prim.Native.Nat.{ℕ, suc, ◌+◌, ◌≤◌, ◌<◌}
use mathlib.Core.Path.{◌≡◌, refl, sym, ◌∙◌, ap, ap₂}
use mathlib.Core.Bool.{Bool, true, false, cond}
use mathlib.Core.List.{List}
use native.Mathlib.Omega.{arith}
use lib.Dec.{eqb, leb}
use lib.ListN.{length, get_or, set}
use borrow.Author.Tests.{eq-eqb, ne_eqb, eqb-false}
use Rattle.std.specs.Prelude.{Option, Some, None, Result, Ok, Err}
use Rattle.std.specs.Result.{IsErrAnd}
use Rattle.input.specs.declared.Event.{Event}
use Rattle.input.specs.declared.Event.TheVariants.{Arrival, Finish}
use Rattle.input.specs.declared.Refusal.{Refusal}
use Rattle.input.specs.Classes.{Tree, place_of, row_of, sends}
use Rattle.input.specs.Events.{Events, class_word, length_word, decode, event}
use Rattle.input.specs.EventRows.{row_for, no_rows, rows_for}
use Rattle.input.specs.Refusals.{nothing, given, or_else, first, first_below, packet_refused, meeting_refused}
use Rattle.rules.specs.Promise.{within, for_part, one_arrival, one_finish, arrived, finish_count}
use Rattle.laws.proofs.Tree.Trees.{or_none, given_none, place_most}
use Rattle.tables.specs.Judged.{Refuses, Judged}
use Rattle.tables.specs.Stated.{Finds}
use Rattle.tables.specs.Answers.{refusal_of}
use Rattle.checks.specs.Counted.{counted_refused, Known, Places, Found, filled}
use Rattle.tables.proofs.Firsts.{Plain, or_else_second, given_plain, or_else_plain, last_plain, below_plain}
use Rattle.tables.proofs.Judging.{refuses, judged_as, handed, at_place}

-- ── an arrival ──

module _ (tree : Tree) (class i word : ℕ) (idle : Bool) (bytes : ℕ) where
  pub met_unknown : (r : Refusal) → row_of tree class ≡ tree.rows → r ≡ refusal_of 11 i 0 → Refuses (meeting_refused tree i word (Arrival class bytes) idle) r
  unfolding meeting_refused or_else given nothing
  met_unknown r none eleven = refuses eleven (omega arith) (rw (eq-eqb (row_of tree class) tree.rows none) refl)

  module _ (senders : List Bool) (row : ℕ) (found : Found tree senders class (Some row)) where
    known_class : packet_refused i (get_or senders row false) bytes ≡ meeting_refused tree i word (Arrival class bytes) idle
    unfolding meeting_refused or_else given nothing
    known_class =
        let at = found.row_is in
        rw (ne_eqb (row_of tree class) tree.rows (λ e. omega arith), ← at.0, found.sending row at.1) refl

    pub met_known : {A : Type 0} (a : A) (r : Result A Refusal) → Judged (packet_refused i (get_or senders row false) bytes) a r
        → Judged (meeting_refused tree i word (Arrival class bytes) idle) a r
    met_known a r packet = judged_as _ _ a r known_class packet

-- ── rows ──

module _ (tree : Tree) (identifiers : List ℕ) (senders : List Bool) (known : Known tree identifiers senders) where
  row_found : (class : ℕ) → row_of tree class ≡ place_of class identifiers
  unfolding row_of
  row_found class = ap (place_of class) known.names

  row_within : (class : ℕ) → row_of tree class ≤ length identifiers
  unfolding row_of
  row_within class = rw known.names (place_most class identifiers)

  pub class_found : (class : ℕ) (row : Option ℕ) → Finds identifiers class row → Found tree senders class row
  class_found class row finds =
      record { row_is = place row finds; sending = λ r inside. known.sending r (let h = rw known.rows at inside in h) }
    where
      place : (row : Option ℕ) → Finds identifiers class row → Places tree class row
      place (Some r) finds = (finds.0 ∙ sym (row_found class), rw known.rows finds.1)
      place None finds = row_found class ∙ finds ∙ sym known.rows

  -- ── counts ──

  either_zero : (b : Bool) → ◌≡◌ {A = ℕ} (cond b 0 0) 0
  either_zero true = refl
  either_zero false = refl

  -- an arrival that is not refused is for a row
  arrival_counts : (class bytes i word : ℕ) (idle : Bool) → (meeting_refused tree i word (Arrival class bytes) idle).number ≡ 0
      → within tree 0 (row_of tree class) ≡ true
  unfolding meeting_refused
  arrival_counts class bytes i word idle none =
      let k = row_of tree class in
      let unknown = given (eqb k tree.rows) 11 i in
      let test = given_none (eqb k tree.rows) _ _ (or_none unknown (packet_refused i (sends tree k) bytes) none).0 in
      let other = eqb-false (row_of tree class) tree.rows test in
      let lower = row_within class in
      let rows = known.rows in
      known.rooted (row_of tree class) (omega arith)

  event_counts : (events : Events) (i : ℕ) (idle : Bool) → (meeting_refused tree i (length_word events i) (event events i) idle).number ≡ 0
      → cond (for_part tree events 0 i) (one_arrival (event events i)) 0 ≡ one_arrival (event events i)
  unfolding for_part event decode one_arrival
  event_counts events i idle none = go (eqb class 0) none
    where
      class : ℕ
      class = class_word events i

      bytes : ℕ
      bytes = length_word events i

      go : (b : Bool) → (meeting_refused tree i bytes (cond b Finish (Arrival class bytes)) idle).number ≡ 0
          → cond (within tree 0 (row_of tree class)) (one_arrival (cond b Finish (Arrival class bytes))) 0
          ≡ one_arrival (cond b Finish (Arrival class bytes))
      go true none = either_zero (within tree 0 (row_of tree class))
      go false none = rw (arrival_counts class bytes i bytes idle none) refl

-- ── a list of events ──

-- the first i events are not refused, are for these rows, and have so many arrivals and finishes
pub record Passed (tree : Tree) (events : Events) (i : ℕ) (rows : List ℕ) (arrivals finishes : ℕ) : Type 0 where
  pub placed : rows ≡ rows_for tree events i
  pub came : arrivals ≡ arrived tree events 0 i
  pub went : finishes ≡ finish_count events i
  pub none : (first_below (counted_refused tree events) i).number ≡ 0

-- a refusal that a `?` hands on, whatever is filled in by then
pub filled_stop :
    (refusal : Refusal) (found by_then : List ℕ) (r : Result (Unit {0}) Refusal) (e : Refusal) → IsErrAnd r (λ x. x ≡ e) → Refuses refusal e
    → Judged refusal found (filled by_then r)
filled_stop refusal found by_then (Ok done) e none refuses = absurd none
filled_stop refusal found by_then (Err x) e same refuses = handed refusal found (Err x) e same refuses

pub passed_none : (tree : Tree) (events : Events) (rows : List ℕ) → rows ≡ no_rows → Passed tree events 0 rows 0 0
unfolding rows_for arrived finish_count first_below nothing
passed_none tree events rows none = record { placed = none; came = refl; went = refl; none = refl }

pub meeting_plain : (tree : Tree) (i word : ℕ) (e : Event) (idle : Bool) → Plain (meeting_refused tree i word e idle)
unfolding meeting_refused packet_refused first
meeting_plain tree i word (Arrival class bytes) idle =
    or_else_plain (given _ 11 i) _ (given_plain _ 11 i (omega arith))
    (or_else_plain (given _ 12 i) _ (given_plain _ 12 i (omega arith)) (last_plain (given _ 13 i) (given_plain _ 13 i (omega arith))))
meeting_plain tree i word Finish idle =
    or_else_plain (given _ 13 i) _ (given_plain _ 13 i (omega arith)) (last_plain (given _ 14 i) (given_plain _ 14 i (omega arith)))

pub counted_plain : (tree : Tree) (events : Events) (n : ℕ) → Plain (first_below (counted_refused tree events) n)
unfolding counted_refused
counted_plain tree events =
    below_plain (counted_refused tree events)
    (λ i. meeting_plain tree i (length_word events i) (event events i) (leb (arrived tree events 0 i) (finish_count events i)))

module _ (tree : Tree) (events : Events) (i : ℕ) (rows : List ℕ) (arrivals finishes : ℕ) (passed : Passed tree events i rows arrivals finishes) where
  abbrev met : Refusal
  met = meeting_refused tree i (length_word events i) (event events i) (leb arrivals finishes)

  counted : met ≡ counted_refused tree events i
  unfolding counted_refused
  counted = rw (passed.came, passed.went) refl

  pub passed_stop : (n : ℕ) → i < n → (r : Refusal) → Refuses met r → Refuses (first_below (counted_refused tree events) n) r
  passed_stop n below r refused =
      at_place (counted_refused tree events) i n r below passed.none (rw (← counted) refused)

  passed_by : or_else (first_below (counted_refused tree events) i) (counted_refused tree events i) ≡ counted_refused tree events i
  passed_by = or_else_second (first_below (counted_refused tree events) i) (counted_refused tree events i) passed.none

  pub passed_more : (identifiers : List ℕ) (senders : List Bool) → Known tree identifiers senders → (row : ℕ) → Judged met (row_for tree (event events i)) (Ok row)
      → Passed tree events (suc i) (set rows i row) (arrivals + one_arrival (event events i)) (finishes + one_finish (event events i))
  unfolding rows_for arrived finish_count first_below or_else
  passed_more identifiers senders known row fine =
      record {
        placed = rw (passed.placed, fine.1) refl;
        came = ap₂ ◌+◌ passed.came (sym (event_counts tree identifiers senders known events i (leb arrivals finishes) fine.0));
        went = rw passed.went refl;
        none = rw (passed_by, ← counted) fine.0;
      }
