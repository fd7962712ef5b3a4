-- What a call answers and leaves, as the rules' records.
use Rattle.std.specs.Prelude.{ℕ, [], List, ℤ, Option, Result, Ok, Err}
use Rattle.input.specs.declared.Refusal.{Refusal}
use Rattle.live_rules.specs.declared.LiveAnswer.{LiveAnswer}
use Rattle.live_rules.specs.Outcomes.{Told, refusing, doing}
use Rattle.moving.specs.Arrays.{went}

-- an event's refusal, or what went on the line
abbrev pub answer_of : Result (Option ℕ) Refusal → LiveAnswer
answer_of (Ok sent) = doing (went sent)
answer_of (Err refusal) = refusing refusal

-- of a call that puts nothing on the line
abbrev pub done_of : Result (Unit {0}) Refusal → LiveAnswer
done_of (Ok nothing) = doing []
done_of (Err refusal) = refusing refusal

abbrev pub told_of : LiveAnswer → List ℕ → List ℤ → Told
told_of answer report lags = record { answer = answer; report = report; lags = lags }
