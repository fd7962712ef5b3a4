-- Refusals: their form, and what is refused of the lent lengths, of a class table and of the words of an event, with which number and where.
use Rattle.std.specs.Prelude.{ℕ, zero, suc, ◌*◌, Bool, cond, not, ◌||◌, List, [], ◌∷◌, ltb, eqb, length, get_or}
use Rattle.input.specs.declared.Event.{Event}
use Rattle.input.specs.declared.Event.TheVariants.{Arrival, Finish}
use Rattle.input.specs.declared.Refusal.{Refusal}
use Rattle.input.specs.Limits.{least_rows, most_rows, most_identifier, most_depth, most_events, least_bytes, most_bytes, whole, report_words}
use Rattle.input.specs.Shares.{allowed}
use Rattle.input.specs.Classes.{Table, Tree, earlier, parent_of, tree_of, depth, row_of, sends, children_share}
use Rattle.input.specs.Events.{Events, count}

-- ── the form of a refusal ──

unfoldable pub nothing : Refusal
nothing = record { number = 0; place = 0; second = 0 }

-- the refusal with this number at this place, if the test holds
unfoldable pub given : Bool → ℕ → ℕ → Refusal
given test number place = cond test (record { number = number; place = place; second = 0 }) nothing

-- the first that refuses
unfoldable pub or_else : Refusal → Refusal → Refusal
or_else refusal next = cond (eqb refusal.number 0) next refusal

unfoldable pub first : List Refusal → Refusal
first [] = nothing
first (refusal ∷ later) = or_else refusal (first later)

-- the first that refuses at the places below n
unfoldable pub first_below : (ℕ → Refusal) → ℕ → Refusal
first_below at zero = nothing
first_below at (suc i) = or_else (first_below at i) (at i)

-- ── the lengths of the lent slices ──

-- how many words each lent result slice has
pub record Room : Type 0 where
  pub order : ℕ
  pub report : ℕ
  pub lags : ℕ
  pub working : ℕ

-- 1: the row slices are unequal, or the rows too few or too many
unfoldable pub rows_refused : Table → Refusal
rows_refused table =
    let rows = length table.identifiers in
    given (not (eqb (length table.parent_identifiers) rows) || not (eqb (length table.shares) rows) || ltb rows least_rows || ltb most_rows rows)
    1 0

-- 2: the event slices are unequal, or there are too many events
unfoldable pub events_refused : Events → Refusal
events_refused events = given (not (eqb (length events.lengths) (count events)) || ltb most_events (count events)) 2 0

-- 3: a result slice is too short for so many rows and events
unfoldable pub room_refused : ℕ → ℕ → Room → Refusal
room_refused rows events room =
    given (ltb room.order events || ltb room.working events || ltb room.report (report_words * rows) || ltb room.lags rows) 3 0

-- ── the class table ──

-- row 0: 4, 15 and 6 alone
unfoldable pub root_refused : Table → Refusal
root_refused table =
    first
    (given (eqb (get_or table.identifiers 0 0) 0) 4 0
    ∷ given (ltb most_identifier (get_or table.identifiers 0 0)) 15 0
    ∷ given (not (eqb (get_or table.parent_identifiers 0 0) 0) || not (eqb (get_or table.shares 0 0) 0)) 6 0
    ∷ [])

-- 5: the identifier of row r stands in an earlier row, which is the second place
unfoldable pub doubled : ℕ → ℕ → Refusal
doubled r other = cond (ltb other r) (record { number = 5; place = r; second = other }) nothing

-- any other row r: 4, 15, 5, 7, 8, 9, by its identifier, the first row with that identifier, its parent's row, its share and its depth
unfoldable pub class_refused : ℕ → ℕ → ℕ → ℕ → ℕ → ℕ → Refusal
class_refused r identifier earlier parent share depth =
    first
    (given (eqb identifier 0) 4 r
    ∷ given (ltb most_identifier identifier) 15 r
    ∷ doubled r earlier
    ∷ given (eqb parent r) 7 r
    ∷ given (not (allowed share)) 8 r
    ∷ given (ltb most_depth depth) 9 r
    ∷ [])

unfoldable pub row_refused : Table → ℕ → Refusal
row_refused table zero = root_refused table
row_refused table (suc before) =
    let r = suc before in
    let identifier = get_or table.identifiers r 0 in
    class_refused r identifier (earlier table r identifier) (parent_of table r) (get_or table.shares r 0) (depth (tree_of table) r)

-- 10: the shares of row p's children are too much together
unfoldable pub shares_refused : Table → ℕ → Refusal
shares_refused table p = given (ltb whole (children_share (tree_of table) p (length table.identifiers))) 10 p

-- row by row, then the sums of shares at the lowest parent row
unfoldable pub table_refused : Table → Refusal
table_refused table =
    let rows = length table.identifiers in
    or_else (first_below (row_refused table) rows) (first_below (shares_refused table) rows)

-- ── the words of an event ──

-- a packet at place i for a class that is there, a sending class or not: 12, 13
unfoldable pub packet_refused : ℕ → Bool → ℕ → Refusal
packet_refused i sending length =
    first (given (not sending) 12 i ∷ given (ltb length least_bytes || ltb most_bytes length) 13 i ∷ [])

-- an event at place i, with its length word, that meets an idle line or a busy one. An arrival: 11, 12, 13; a finish: 13, 14
unfoldable pub meeting_refused : Tree → ℕ → ℕ → Event → Bool → Refusal
meeting_refused tree i word (Arrival class length) idles =
    let row = row_of tree class in
    or_else (given (eqb row tree.rows) 11 i) (packet_refused i (sends tree row) length)
meeting_refused tree i word Finish idles = first (given (not (eqb word 0)) 13 i ∷ given idles 14 i ∷ [])
