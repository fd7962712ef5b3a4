-- What replaying packets leaves that arrive at given moments: the run of their list, and the list itself where it is done.
use Rattle.std.specs.Prelude.{ℕ, ◌≡◌, cond, List, eqb}
use Rattle.rules.specs.Outcome.{Lent, Outcome, over, outcome}

-- of a list that is run: these slices were lent for it, and these are left
pub record Replayed (lent : Lent) (classes lengths : List ℕ) (ran : Outcome) (classes' lengths' : List ℕ) : Type 0 where
  pub run_is : ran ≡ outcome lent
  pub classes_are : classes' ≡ cond (eqb ran.answer.number 0) (over lent.events.classes classes) classes
  pub lengths_are : lengths' ≡ cond (eqb ran.answer.number 0) (over lent.events.lengths lengths) lengths
