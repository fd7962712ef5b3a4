-- What serving the events of an input goes by, and what it leaves.
use Rattle.std.specs.Prelude.{ℕ, ◌<◌, ◌≡◌, List, length, get_or, drop, ℤ}
use Rattle.input.specs.Classes.{Tree}
use Rattle.input.specs.Events.{Events, count, event}
use Rattle.input.specs.EventRows.{row_for}
use Rattle.rules.specs.Steps.{after}
use Rattle.rules.specs.Outcome.{report_of, lags_of, over}

-- the list has the row that each event is for
abbrev pub RowsFor : Tree → Events → List ℕ → Type 0
RowsFor tree events rows = (i : ℕ) → i < count events → get_or rows i 0 ≡ row_for tree (event events i)

-- after the last event: so many packets went on the line, the results are what the rules say, and of the working slice the words
-- from the number of events on are as they were
pub record Served
    (tree : Tree) (events : Events) (sent : ℕ) (order order' report report' : List ℕ) (lags lags' : List ℤ) (working working' : List ℕ)
    : Type 0 where
  pub sent_are : sent ≡ length (after tree events (count events)).order
  pub order_is : order' ≡ over (after tree events (count events)).order order
  pub report_is : report' ≡ over (report_of tree (after tree events (count events)) tree.rows) report
  pub lags_are : lags' ≡ over (lags_of tree (after tree events (count events)) tree.rows) lags
  pub working_rest : drop (count events) working' ≡ drop (count events) working
