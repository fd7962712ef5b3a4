-- What the replay of a capture leaves: the answer, and every word of every lent slice. It is the run of the list that the capture makes.
use Rattle.std.specs.Prelude.{ℕ, zero, suc, ◌≡◌, cond, ◌||◌, List, [], ◌∷◌, ◌++◌, ltb, eqb, length, ℤ}
use Rattle.input.specs.declared.Answer.{Answer}
use Rattle.input.specs.declared.Refusal.{Refusal}
use Rattle.input.specs.Classes.{Table, tree_of}
use Rattle.input.specs.Events.{Events, count}
use Rattle.input.specs.Refusals.{given, first, rows_refused, events_refused}
use Rattle.input.specs.Lent.{events_of}
use Rattle.rules.specs.Outcome.{Lent, Outcome, over, refusing, outcome}
use Rattle.pcap.specs.declared.Sorting.{Sorting}
use Rattle.pcap.specs.Records.{record_count, stamp, original, class_of}
use Rattle.pcap.specs.Faults.{capture_refused}
use Rattle.pcap.specs.Lists.{Arrivals, list_of}

-- what is lent: a capture's bytes, the classes for its packets, the rate in bytes a second, the table, two slices for the list, and four for
-- the run's results
pub record CaptureLent : Type 0 where
  pub capture : List ℕ
  pub sorting : Sorting
  pub rate : ℕ
  pub table : Table
  pub list : Events
  pub order : List ℕ
  pub report : List ℕ
  pub lags : List ℤ
  pub working : List ℕ

-- what is left: the list's slices, and what the run leaves
pub record CaptureLeft : Type 0 where
  pub list : Events
  pub run : Outcome

-- a capture's first records as arrivals
unfoldable pub arrivals_below : List ℕ → Sorting → ℕ → Arrivals
arrivals_below capture sorting zero = record { stamps = []; classes = []; lengths = [] }
arrivals_below capture sorting (suc k) =
    let before = arrivals_below capture sorting k in
    record {
      stamps = before.stamps ++ stamp capture k ∷ [];
      classes = before.classes ++ class_of capture sorting k ∷ [];
      lengths = before.lengths ++ original capture k ∷ [];
    }

unfoldable pub arrivals_of : List ℕ → Sorting → Arrivals
arrivals_of capture sorting = arrivals_below capture sorting (record_count capture)

-- the list that a capture makes
unfoldable pub captured_list : CaptureLent → Events
captured_list lent = list_of (tree_of lent.table) (arrivals_of lent.capture lent.sorting) lent.rate

-- what the run is lent, with this list
unfoldable pub run_lent : CaptureLent → Events → Lent
run_lent lent list =
    record { table = lent.table; events = list; order = lent.order; report = lent.report; lags = lent.lags; working = lent.working }

-- 3: a slice for the list, of so many words, is too short for so many events
unfoldable pub list_refused : ℕ → ℕ → ℕ → Refusal
list_refused events classes lengths = given (ltb classes events || ltb lengths events) 3 0

-- what is looked for before the run: the capture's own, then 1, 2 and 3
unfoldable pub before_run : CaptureLent → Events → Refusal
before_run lent list =
    first
    (capture_refused lent.capture lent.rate
    ∷ rows_refused lent.table
    ∷ events_refused list
    ∷ list_refused (count list) (length lent.list.classes) (length lent.list.lengths)
    ∷ [])

-- a list over the first words of its slices
unfoldable pub list_over : Events → Events → Events
list_over list lent = events_of (over list.classes lent.classes) (over list.lengths lent.lengths)

-- the run's outcome, with its list where it is done
unfoldable pub having_run : CaptureLent → Events → Outcome → CaptureLeft
having_run lent list ran =
    record { list = cond (eqb ran.answer.number 0) (list_over list lent.list) lent.list; run = ran }

unfoldable pub captured : CaptureLent → CaptureLeft
captured lent =
    let list = captured_list lent in
    let refusal = before_run lent list in
    cond (eqb refusal.number 0) (having_run lent list (outcome (run_lent lent list)))
    (record { list = lent.list; run = refusing (run_lent lent list) refusal })

-- the replay of what was lent leaves this, the answer and every word of every slice
abbrev pub Replays : CaptureLent → CaptureLeft → Type 0
Replays lent left = left ≡ captured lent
