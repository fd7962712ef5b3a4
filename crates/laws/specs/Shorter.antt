-- What is lent, cut short: the first events alone.
use Rattle.std.specs.Prelude.{ℕ, take}
use Rattle.input.specs.Events.{Events}
use Rattle.rules.specs.Outcome.{Lent}

-- the first n events of a list
unfoldable pub first_events : ℕ → Events → Events
first_events n events = record { classes = take n events.classes; lengths = take n events.lengths }

-- the same table and the same slices for the results
unfoldable pub cut : ℕ → Lent → Lent
cut n lent =
    record {
      table = lent.table;
      events = first_events n lent.events;
      order = lent.order;
      report = lent.report;
      lags = lent.lags;
      working = lent.working;
    }
