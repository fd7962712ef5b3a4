-- The run's whole outcome: the answer, and every word of every lent slice afterwards.
use Rattle.std.specs.Prelude.{ℕ, zero, suc, ◌*◌, ◌-◌, ◌≡◌, cond, ◌||◌, List, [], ◌∷◌, ◌++◌, eqb, length, get_or, drop, replicate, ℤ, pos, ◌-ℤ◌}
use Rattle.input.specs.declared.Refusal.{Refusal}
use Rattle.input.specs.declared.Answer.{Answer}
use Rattle.input.specs.Limits.{whole}
use Rattle.input.specs.Classes.{Table, Tree, tree_of, parent, share, sends}
use Rattle.input.specs.Events.{Events, count}
use Rattle.rules.specs.Box.{Box, start, finish, virtual, bytes_of, held_by}
use Rattle.rules.specs.Steps.{after}
use Rattle.input.specs.Refusals.{Room}
use Rattle.rules.specs.Refused.{refused}

-- what is lent to the run
pub record Lent : Type 0 where
  pub table : Table
  pub events : Events
  pub order : List ℕ
  pub report : List ℕ
  pub lags : List ℤ
  pub working : List ℕ

-- what the run leaves: the table and the events are lent to be read alone
pub record Outcome : Type 0 where
  pub answer : Answer
  pub order : List ℕ
  pub report : List ℕ
  pub lags : List ℤ
  pub working : List ℕ

-- the report's words for row r: bytes finished, start, finish, virtual time, packets held. The root shows no start and no
-- finish, a sending class no virtual time
unfoldable pub row_report : Tree → Box → ℕ → List ℕ
row_report tree box r =
    bytes_of box r
    ∷ cond (eqb r 0) 0 (start box.rows r)
    ∷ cond (eqb r 0) 0 (finish box.rows r)
    ∷ cond (sends tree r) 0 (virtual box.rows r)
    ∷ held_by box r
    ∷ []

-- the report of the rows below n
unfoldable pub report_of : Tree → Box → ℕ → List ℕ
report_of tree box zero = []
report_of tree box (suc r) = report_of tree box r ++ row_report tree box r

-- the lag of row r: its share of what its parent finished since the backlog began, less what it finished itself; above 0 it
-- is short. The root, and a class that holds nothing, have none
unfoldable pub lag : Tree → Box → ℕ → ℤ
lag tree box r =
    cond (eqb r 0 || eqb (held_by box r) 0) (pos 0)
    (pos (share tree r * (bytes_of box (parent tree r) - get_or box.parent_since r 0))
    -ℤ pos (whole * (bytes_of box r - get_or box.since r 0)))

-- the lags of the rows below n
unfoldable pub lags_of : Tree → Box → ℕ → List ℤ
lags_of tree box zero = []
lags_of tree box (suc r) = lags_of tree box r ++ lag tree box r ∷ []

-- the first words are written, the words after them are untouched
unfoldable pub over {ℓ} : {A : Type ℓ} → List A → List A → List A
over written lent = written ++ drop (length written) lent

-- the room that the result slices have
unfoldable pub room_of : Lent → Room
room_of lent =
    record { order = length lent.order; report = length lent.report; lags = length lent.lags; working = length lent.working }

-- a refusal changes nothing
unfoldable pub refusing : Lent → Refusal → Outcome
refusing lent refusal =
    record {
      answer = record { number = refusal.number; place = refusal.place; second = refusal.second; count = 0 };
      order = lent.order;
      report = lent.report;
      lags = lent.lags;
      working = lent.working;
    }

-- a done run: the order has as many words as packets went on the line, the working slice is zero in a word an event
unfoldable pub doing : Lent → Tree → Box → Outcome
doing lent tree box =
    record {
      answer = record { number = 0; place = 0; second = 0; count = length box.order };
      order = over box.order lent.order;
      report = over (report_of tree box tree.rows) lent.report;
      lags = over (lags_of tree box tree.rows) lent.lags;
      working = over (replicate (count lent.events) 0) lent.working;
    }

-- the run
unfoldable pub outcome : Lent → Outcome
outcome lent =
    let tree = tree_of lent.table in
    let refusal = refused lent.table lent.events (room_of lent) in
    cond (eqb refusal.number 0) (doing lent tree (after tree lent.events (count lent.events))) (refusing lent refusal)

-- the run of what was lent leaves this, the answer and every word of every slice
abbrev pub Ran : Lent → Outcome → Type 0
Ran lent left = left ≡ outcome lent
