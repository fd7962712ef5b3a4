-- An event that is taken: what it needs of the state that was read, and what it leaves.
use Rattle.std.specs.Prelude.{ℕ, ◌<◌, ◌≤◌, ◌≡◌, ◌≢◌, List, [], ◌∷◌, length}
use Rattle.std.proofs.lemmas.List.Edits.{sets}
use Rattle.input.specs.declared.Event.{Event}
use Rattle.input.specs.Limits.{most_bytes}
use Rattle.rules.specs.Box.{head}
use Rattle.laws.specs.Sound.{Sender}
use Rattle.arrays.specs.declared.RowArrays.{RowArrays}
use Rattle.arrays.specs.declared.CountArrays.{CountArrays}
use Rattle.arrays.specs.Arrays.{rows_in}
use Rattle.storing.specs.Counted.{Counted}
use Rattle.live_rules.specs.declared.LiveAnswer.{LiveAnswer}
use Rattle.live_rules.specs.Limits.{most_held, most_accepted}
use Rattle.live_rules.specs.Layout.{accepted_word}
use Rattle.live_rules.specs.State.{Live, live_in, tags_stored, heads_stored, counts_stored, stored}
use Rattle.live_rules.specs.Taking.{box_after, took}
use Rattle.live_rules.specs.Outcomes.{Left, doing}
use Rattle.live_laws.specs.Holds.{Holds}
use Rattle.state.specs.declared.State.{State}
use Rattle.state.specs.Opened.{Opened}

-- a packet of so many bytes can arrive for class k of a sound state that was read, and there is room for it
pub record ArrivalTakes (live : Live) (state : State) (k size : ℕ) : Type 0 where
  pub holds : Holds live
  pub opened : Opened live state
  pub sender : Sender live.tree k
  pub some_bytes : 0 < size
  pub few_bytes : size ≤ most_bytes
  pub few_accepted : live.accepted < most_accepted
  pub few_held : length live.packets < most_held

-- the line of a sound state that was read is busy
pub record FinishTakes (live : Live) (state : State) : Type 0 where
  pub holds : Holds live
  pub opened : Opened live state
  pub busy : head live.rows 0 ≢ 0

-- a state with these rows, once so many packets were accepted
pub record Keeps (live : Live) (accepted : ℕ) (rows : RowArrays) (counts : CountArrays) : Type 0 where
  pub accepted_is : live.accepted ≡ accepted
  pub rows_are : live.rows ≡ rows_in rows
  pub counts_are : Counted live counts

-- all that an event stores but the packets
unfoldable pub rows_kept : ℕ → Live → List ℕ → List ℕ
rows_kept n live words =
    counts_stored n live (heads_stored n live.rows (tags_stored n live.rows (sets words accepted_word (live.accepted ∷ []))))

abbrev pub left_of : LiveAnswer → List ℕ → Left
left_of answer words = record { answer = answer; words = words }

-- what an event leaves that is not refused
unfoldable pub taken : List ℕ → Event → Left
taken words event =
    record { answer = doing (box_after (live_in words) event).order; words = stored (took (live_in words) event) words }
