-- One event: whether a live box refuses it, and what it makes of the state else.
use Rattle.std.specs.Prelude.{ℕ, suc, pred, cond, List, [], ◌∷◌, ◌++◌, leb, eqb, length}
use Rattle.input.specs.declared.Event.{Event}
use Rattle.input.specs.declared.Event.TheVariants.{Arrival, Finish}
use Rattle.input.specs.declared.Refusal.{Refusal}
use Rattle.input.specs.Classes.{row_of}
use Rattle.input.specs.Refusals.{nothing, given, or_else, first, meeting_refused}
use Rattle.rules.specs.Box.{Box, head}
use Rattle.rules.specs.Steps.{step}
use Rattle.rules.specs.Refused.{idle}
use Rattle.live_rules.specs.Limits.{most_held, most_accepted}
use Rattle.live_rules.specs.State.{Held, Live, box_of, events}

-- ── refusals ──

-- an arrival where as many packets were accepted as can be, 21, or are held, 22; a finish never
unfoldable pub full_refused : Live → Event → Refusal
full_refused live (Arrival class size) =
    first (given (leb most_accepted live.accepted) 21 0 ∷ given (leb most_held (length live.packets)) 22 0 ∷ [])
full_refused live Finish = nothing

-- an event with its length word: 11 to 14 as in the run, with place 0, then 21 and 22
unfoldable pub event_refused : Live → ℕ → Event → Refusal
event_refused live word event = or_else (meeting_refused live.tree 0 word event (idle (box_of live))) (full_refused live event)

-- ── the event ──

-- the run's box after it; its order is what the event put on the line
unfoldable pub box_after : Live → Event → Box
box_after live event = step live.tree (events live) event (box_of live)

-- the packets without the one of this name
unfoldable pub without : ℕ → List Held → List Held
without name [] = []
without name (packet ∷ later) = cond (eqb packet.name name) later (packet ∷ without name later)

-- a packet that arrives is the last of all; the line's, which is the root's head, goes
unfoldable pub packets_after : Live → Event → List Held
packets_after live (Arrival class size) =
    live.packets ++ record { class = row_of live.tree class; length = size; name = events live } ∷ []
packets_after live Finish = without (pred (head live.rows 0)) live.packets

unfoldable pub accepted_after : ℕ → Event → ℕ
accepted_after accepted (Arrival class size) = suc accepted
accepted_after accepted Finish = accepted

-- the state after an event that is not refused
unfoldable pub took : Live → Event → Live
took live event =
    record {
      tree = live.tree;
      rows = (box_after live event).rows;
      bytes = (box_after live event).bytes;
      held = (box_after live event).held;
      since = (box_after live event).since;
      parent_since = (box_after live event).parent_since;
      packets = packets_after live event;
      accepted = accepted_after live.accepted event;
    }
