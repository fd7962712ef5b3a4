-- What an event leaves that meets a sound state.
use Rattle.std.specs.Prelude.{ℕ, ◌≤◌, ◌≡◌, true, cond, List, eqb, length}
use Rattle.input.specs.declared.Event.{Event}
use Rattle.live_rules.specs.Layout.{state_words}
use Rattle.live_rules.specs.State.{live_in}
use Rattle.live_rules.specs.Soundness.{sound}
use Rattle.live_rules.specs.Taking.{event_refused}
use Rattle.live_rules.specs.Outcomes.{Left, refusing}
use Rattle.state.specs.declared.State.{State}
use Rattle.state.specs.Opened.{Opened}
use Rattle.taking.specs.Taken.{left_of, taken}

-- the words hold a sound state, which was read
pub record Read (words : List ℕ) (state : State) : Type 0 where
  pub long : state_words ≤ length words
  pub is_sound : sound (live_in words) ≡ true
  pub opened : Opened (live_in words) state

-- its refusal, or what it makes of the state
unfoldable pub met : List ℕ → ℕ → Event → Left
met words word event =
    let refusal = event_refused (live_in words) word event in
    cond (eqb refusal.number 0) (taken words event) (left_of (refusing refusal) words)
