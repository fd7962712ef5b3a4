-- Any number of calls on one state: a fresh one is made, and events are handed to it one after the other, taken or refused.
use Rattle.std.specs.Prelude.{ℕ, zero, suc, ◌<◌, ◌≡◌, cond, List, [], ◌∷◌, ◌++◌, eqb}
use Rattle.input.specs.Classes.{Table}
use Rattle.input.specs.Events.{Events, class_word, length_word}
use Rattle.live_rules.specs.declared.LiveAnswer.{LiveAnswer}
use Rattle.live_rules.specs.Outcomes.{Made, Took}

-- ── what the answers say ──

-- one event more at the end of a list
unfoldable pub followed_by : Events → ℕ → ℕ → Events
followed_by events class length = record { classes = events.classes ++ class ∷ []; lengths = events.lengths ++ length ∷ [] }

-- of the first n events those whose call answered 0, in their order, as a run is lent them
unfoldable pub accepted_of : Events → (ℕ → LiveAnswer) → ℕ → Events
accepted_of events answers zero = record { classes = []; lengths = [] }
accepted_of events answers (suc n) =
    let earlier = accepted_of events answers n in
    cond (eqb (answers n).number 0) (followed_by earlier (class_word events n) (length_word events n)) earlier

-- the packet that a call answers to have put on the line, by name, or none
abbrev pub shown_by : LiveAnswer → List ℕ
shown_by answer = cond (eqb answer.count 0) [] (answer.packet ∷ [])

-- those of the first n calls
unfoldable pub sent_of : (ℕ → LiveAnswer) → ℕ → List ℕ
sent_of answers zero = []
sent_of answers (suc n) = sent_of answers n ++ shown_by (answers n)

-- ── the calls ──

-- a state that was made of a table, and the first n events on it: the words before each call, and what it answered
pub record Calls (table : Table) (lent : List ℕ) (events : Events) (n : ℕ) : Type 0 where
  pub made_answer : LiveAnswer
  pub words : ℕ → List ℕ
  pub answers : ℕ → LiveAnswer
  pub made : Made table lent (record { answer = made_answer; words = words 0 })
  pub done : made_answer.number ≡ 0
  pub each :
      (i : ℕ) → i < n
      → Took (words i) (class_word events i) (length_word events i) (record { answer = answers i; words = words (suc i) })
