-- The contract leaves no choice: no two different outcomes of a run meet it, and no two different results.
-- Assumes nothing.
use Prim.Native.Nat.{ℕ}
use mathlib.Core.Path.{◌≡◌, sym, ap}
use mathlib.Core.Logic.{◌≢◌}
use Rattle.std.specs.Prelude.{Result, Ok, Err, IfErr}
use Rattle.words.specs.Unique.{Unique}
use Rattle.words.proofs.Determined.{determined}
use Rattle.input.specs.declared.Answer.{Answer}
use Rattle.input.specs.declared.Refusal.{Refusal}
use Rattle.rules.specs.Outcome.{Lent, Ran, outcome}
use Rattle.engine.specs.Run.{answer_of}

pub one_run : (lent : Lent) → Unique (Ran lent)
one_run lent = determined (outcome lent)

-- results whose refusals have a number above 0, and which come to the same answer, are the same
pub one_result :
    (one other : Result ℕ Refusal) → IfErr one (λ refusal. refusal.number ≢ 0) → IfErr other (λ refusal. refusal.number ≢ 0)
    → answer_of one ≡ answer_of other → one ≡ other
one_result (Ok sent) (Ok more) first second same = ap (λ (a : Answer). Ok a.count) same
one_result (Ok sent) (Err refusal) first second same = absurd (second (sym (ap (λ (a : Answer). a.number) same)))
one_result (Err refusal) (Ok sent) first second same = absurd (first (ap (λ (a : Answer). a.number) same))
one_result (Err refusal) (Err more) first second same =
    ap (λ (a : Answer). Err (record { number = a.number; place = a.place; second = a.second })) same
