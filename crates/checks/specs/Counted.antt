-- What the checks answer. A finish is refused by counting: where as many finishes as arrivals came before it.
use Rattle.std.specs.Prelude.{ℕ, ◌<◌, ◌≡◌, Bool, true, false, List, [], ◌∷◌, leb, length, get_or, Option, Some, None, Result, Ok, Err}
use Rattle.input.specs.declared.Event.{Event}
use Rattle.input.specs.declared.Refusal.{Refusal}
use Rattle.input.specs.Classes.{Table, Tree, tree_of, row_of, sends}
use Rattle.input.specs.Events.{Events, count, length_word, event}
use Rattle.input.specs.EventRows.{row_for, rows_for}
use Rattle.input.specs.Refusals.{Room, first, first_below, rows_refused, events_refused, room_refused, meeting_refused}
use Rattle.input.specs.Lent.{room_with}
use Rattle.rules.specs.Promise.{within, arrived, finish_count}
use Rattle.rules.specs.Refused.{refused}
use Rattle.laws.specs.Sound.{ApartOnAir}
use Rattle.tables.specs.declared.Reading.{Reading}
use Rattle.tables.specs.Judged.{Judged}
use Rattle.tables.specs.Answers.{accepting}
use Rattle.checks.specs.declared.ResultRoom.{ResultRoom}
use Rattle.checks.specs.declared.Checked.{Checked}

-- ── the lengths ──

-- 1, 2, 3
unfoldable pub lengths_refused : Table → Events → Room → Refusal
lengths_refused table events room =
    first (rows_refused table ∷ events_refused events ∷ room_refused (length table.identifiers) (count events) room ∷ [])

-- slices of so many words
pub record SlicesOf (table : Table) (list : Events) (rows parents shares events lengths : ℕ) : Type 0 where
  pub rows_are : length table.identifiers ≡ rows
  pub parents_are : length table.parent_identifiers ≡ parents
  pub shares_are : length table.shares ≡ shares
  pub events_are : count list ≡ events
  pub lengths_are : length list.lengths ≡ lengths

-- how many words each result slice has, as the rules have it
abbrev pub room_in : ResultRoom → Room
room_in room = room_with room.order room.report room.lags room.working

abbrev pub ChecksLengths : Table → Events → Room → Result (Unit {0}) Refusal → Type 0
ChecksLengths table events room r = Judged (lengths_refused table events room) tt r

-- ── the events ──

-- what the check of an event goes by: the rows' identifiers, which differ on the air, which rows send, and that each row stands below the root
pub record Known (tree : Tree) (identifiers : List ℕ) (senders : List Bool) : Type 0 where
  pub rows : tree.rows ≡ length identifiers
  pub names : tree.identifiers ≡ identifiers
  pub apart : ApartOnAir identifiers
  pub sending : (r : ℕ) → r < length identifiers → get_or senders r false ≡ sends tree r
  pub rooted : (r : ℕ) → r < length identifiers → within tree 0 r ≡ true

-- the row of a class; none where no row is the class's
abbrev pub Places : Tree → ℕ → Option ℕ → Type 0
Places tree class (Some r) = (r ≡ row_of tree class) × (r < tree.rows)
Places tree class None = row_of tree class ≡ tree.rows

-- that, with which rows send
pub record Found (tree : Tree) (senders : List Bool) (class : ℕ) (row : Option ℕ) : Type 0 where
  pub row_is : Places tree class row
  pub sending : (r : ℕ) → r < tree.rows → get_or senders r false ≡ sends tree r

-- an event at place i, with its length word, that meets an idle line or a busy one: what refuses it, or else its row
abbrev pub Meets : Tree → ℕ → ℕ → Event → Bool → Result ℕ Refusal → Type 0
Meets tree i word e idle r = Judged (meeting_refused tree i word e idle) (row_for tree e) r

-- the event at place i, by the counts before it
unfoldable pub counted_refused : Tree → Events → ℕ → Refusal
counted_refused tree events i =
    meeting_refused tree i (length_word events i) (event events i) (leb (arrived tree events 0 i) (finish_count events i))

-- a list of events: the first that refuses, or else their rows
abbrev pub MeetsAll : Tree → Events → Result (List ℕ) Refusal → Type 0
MeetsAll tree events r = Judged (first_below (counted_refused tree events) (count events)) (rows_for tree events (count events)) r

-- rows that were filled in, and what came of it
abbrev pub filled : List ℕ → Result (Unit {0}) Refusal → Result (List ℕ) Refusal
filled rows (Ok done) = Ok rows
filled rows (Err refusal) = Err refusal

-- ── a whole input ──

-- the table as it is read and the row of each event
unfoldable pub checked : Table → Events → Checked
checked table events =
    let tree = tree_of table in
    record { reading = accepting tree; event_rows = rows_for tree events (count events) }

-- a table that was read, with rows that were filled in
abbrev pub with_rows : List ℕ → Result Reading Refusal → Result Checked Refusal
with_rows rows (Ok reading) = Ok (record { reading = reading; event_rows = rows })
with_rows rows (Err refusal) = Err refusal

abbrev pub Checks : Table → Events → Room → Result Checked Refusal → Type 0
Checks table events room r = Judged (refused table events room) (checked table events) r
