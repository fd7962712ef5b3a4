-- What the report is read from: which trees and boxes its contract speaks of, and a row's words.
use Rattle.std.specs.Prelude.{ℕ, ◌<◌, Bool, false, cond, ◌≡◌, List, [], ◌∷◌, eqb, get_or}
use Rattle.input.specs.Classes.{Tree, sends}
use Rattle.rules.specs.Box.{Box}
use Rattle.arrays.specs.declared.RowArrays.{RowArrays}
use Rattle.arrays.specs.declared.CountArrays.{CountArrays}

-- the sending classes among the rows below n are those that the list says
abbrev pub Sending : Tree → ℕ → List Bool → Type 0
Sending tree n senders = (r : ℕ) → r < n → sends tree r ≡ get_or senders r false

-- what the report shows of the box is this: starts, finishes, virtual times, bytes finished, packets held
pub record Shown (box : Box) (rows : RowArrays) (c : CountArrays) : Type 0 where
  pub starts : box.rows.starts ≡ rows.starts
  pub finishes : box.rows.finishes ≡ rows.finishes
  pub virtuals : box.rows.virtuals ≡ rows.virtuals
  pub bytes : box.bytes ≡ c.bytes
  pub held : box.held ≡ c.held

-- the report's words for row r, whose virtual time is hidden or not, from the arrays that hold them
abbrev pub row_words : Bool → RowArrays → CountArrays → ℕ → List ℕ
row_words hidden rows c r =
    get_or c.bytes r 0
    ∷ cond (eqb r 0) 0 (get_or rows.starts r 0)
    ∷ cond (eqb r 0) 0 (get_or rows.finishes r 0)
    ∷ cond hidden 0 (get_or rows.virtuals r 0)
    ∷ get_or c.held r 0
    ∷ []
