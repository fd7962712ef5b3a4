-- The first refusal of a whole input, its events among it: whether a finish is refused depends on the box that the events before it reach.
use Rattle.std.specs.Prelude.{ℕ, Bool, not, [], ◌∷◌, length}
use Rattle.input.specs.declared.Refusal.{Refusal}
use Rattle.input.specs.Classes.{Table, Tree, tree_of}
use Rattle.input.specs.Events.{Events, count, length_word, event}
use Rattle.input.specs.Refusals.{Room, first, first_below, rows_refused, events_refused, room_refused, table_refused, meeting_refused}
use Rattle.rules.specs.Box.{Box, has_head}
use Rattle.rules.specs.Steps.{after}

-- the line is idle: no packet is on it
unfoldable pub idle : Box → Bool
idle box = not (has_head box.rows 0)

-- the event at place i, in the state that the events before it reach
unfoldable pub event_refused : Tree → Events → ℕ → Refusal
event_refused tree events i = meeting_refused tree i (length_word events i) (event events i) (idle (after tree events i))

-- the first refusal of an input, or none: lengths, then the table, then event by event
unfoldable pub refused : Table → Events → Room → Refusal
refused table events room =
    first
    (rows_refused table
    ∷ events_refused events
    ∷ room_refused (length table.identifiers) (count events) room
    ∷ table_refused table
    ∷ first_below (event_refused (tree_of table) events) (count events)
    ∷ [])
