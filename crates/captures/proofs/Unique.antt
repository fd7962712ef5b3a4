-- What is stated of the replay leaves no choice, nor does its result.
-- Assumes nothing.
use Prim.Native.Nat.{ℕ}
use mathlib.Core.Path.{◌≡◌, sym, ap, ◌∙◌}
use mathlib.Core.Logic.{◌≢◌}
use Rattle.std.specs.Prelude.{Result, IfErr}
use Rattle.words.specs.Unique.{Unique}
use Rattle.words.proofs.Determined.{determined}
use Rattle.input.specs.declared.Refusal.{Refusal}
use Rattle.pcap.specs.Outcomes.{CaptureLent, CaptureLeft, captured, Replays}
use Rattle.engine.specs.Run.{answer_of}
use Rattle.engine.proofs.Unique.{one_result as one_run_result}

pub one_replay : (lent : CaptureLent) → Unique (Replays lent)
one_replay lent = determined (captured lent)

-- two results of a replay of the same, whose refusals have a number above 0, are one
pub one_result :
    (lent : CaptureLent) (one other : Result ℕ Refusal)
    → IfErr one (λ refusal. refusal.number ≢ 0) → IfErr other (λ refusal. refusal.number ≢ 0)
    → (left again : CaptureLeft) → left.run.answer ≡ answer_of one → again.run.answer ≡ answer_of other
    → Replays lent left → Replays lent again → one ≡ other
one_result lent one other first second left again is too met meets =
    one_run_result one other first second
    (sym is ∙ ap (λ (left : CaptureLeft). left.run.answer) (one_replay lent left again met meets) ∙ too)
