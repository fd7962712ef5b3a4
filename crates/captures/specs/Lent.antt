-- What is lent to the replay of a capture and what it leaves, as the records of the definitions.
use Rattle.std.specs.Prelude.{ℕ, ◌/◌, List, ℤ}
use Rattle.input.specs.Limits.{most_events}
use Rattle.input.specs.Classes.{Table}
use Rattle.input.specs.Events.{Events}
use Rattle.rules.specs.Outcome.{Lent, Outcome}
use Rattle.pcap.specs.declared.Sorting.{Sorting}
use Rattle.pcap.specs.Outcomes.{CaptureLent, CaptureLeft}

abbrev pub capture_lent : List ℕ → Sorting → ℕ → Table → Events → List ℕ → List ℕ → List ℤ → List ℕ → CaptureLent
capture_lent capture sorting rate table list order report lags working =
    record {
      capture = capture;
      sorting = sorting;
      rate = rate;
      table = table;
      list = list;
      order = order;
      report = report;
      lags = lags;
      working = working;
    }

abbrev pub capture_left : Events → Outcome → CaptureLeft
capture_left list run = record { list = list; run = run }

abbrev pub lent_with : Table → Events → List ℕ → List ℕ → List ℤ → List ℕ → Lent
lent_with table list order report lags working =
    record { table = table; events = list; order = order; report = report; lags = lags; working = working }

-- records of the longest capture that is replayed: each makes two events
abbrev pub most_records : ℕ
most_records = most_events / 2
