-- The row that each event is for.
use Rattle.std.specs.Prelude.{ℕ, zero, suc, List, set, replicate}
use Rattle.input.specs.declared.Event.{Event}
use Rattle.input.specs.declared.Event.TheVariants.{Arrival, Finish}
use Rattle.input.specs.Limits.{most_events}
use Rattle.input.specs.Classes.{Tree, row_of}
use Rattle.input.specs.Events.{Events, event}

-- the row of the class that a packet has arrived for; for a finish 0, which no packet is for
unfoldable pub row_for : Tree → Event → ℕ
row_for tree (Arrival class length) = row_of tree class
row_for tree Finish = 0

-- a zero for each event that there can be
unfoldable pub no_rows : List ℕ
no_rows = replicate most_events 0

-- for each of the first n events its row; zero from n on
unfoldable pub rows_for : Tree → Events → ℕ → List ℕ
rows_for tree events zero = no_rows
rows_for tree events (suc i) = set (rows_for tree events i) i (row_for tree (event events i))
