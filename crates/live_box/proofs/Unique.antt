-- The contracts leave no choice: no two different outcomes of a call meet its contract, and no two different results.
-- Assumes nothing.
use Prim.Native.Nat.{ℕ}
use mathlib.Core.Path.{◌≡◌, refl, sym, ap}
use mathlib.Core.Logic.{◌≢◌}
use mathlib.Core.List.{List}
use native.Mathlib.Omega.{arith}
use lib.IntN.{ℤ}
use Rattle.std.specs.Prelude.{Option, None, Some, Result, Ok, Err, IfErr}
use Rattle.words.specs.Unique.{Unique}
use Rattle.words.proofs.Determined.{determined}
use Rattle.input.specs.declared.Refusal.{Refusal}
use Rattle.input.specs.Classes.{Table}
use Rattle.live_rules.specs.declared.LiveAnswer.{LiveAnswer}
use Rattle.live_rules.specs.Outcomes.{Made, Took, Tells, refusing, doing, fresh_outcome, event_outcome, report_outcome}
use Rattle.live_box.specs.Calls.{answer_of, done_of}

pub one_fresh : (table : Table) (words : List ℕ) → Unique (Made table words)
one_fresh table words = determined (fresh_outcome table words)

pub one_event : (words : List ℕ) (class length : ℕ) → Unique (Took words class length)
one_event words class length = determined (event_outcome words class length)

pub one_report : (words report : List ℕ) (lags : List ℤ) → Unique (Tells words report lags)
one_report words report lags = determined (report_outcome words report lags)

-- an event's results whose refusals have a number above 0, and which come to the same answer, are the same
pub one_result :
    (one other : Result (Option ℕ) Refusal) → IfErr one (λ refusal. refusal.number ≢ 0) → IfErr other (λ refusal. refusal.number ≢ 0)
    → answer_of one ≡ answer_of other → one ≡ other
unfolding refusing doing
one_result (Ok None) (Ok None) first second same = refl
one_result (Ok None) (Ok (Some packet)) first second same = absurd (omega (arith, ap (λ (a : LiveAnswer). a.count) same))
one_result (Ok (Some packet)) (Ok None) first second same = absurd (omega (arith, ap (λ (a : LiveAnswer). a.count) same))
one_result (Ok (Some packet)) (Ok (Some other)) first second same = ap (λ (a : LiveAnswer). Ok (Some a.packet)) same
one_result (Ok sent) (Err refusal) first second same = absurd (second (sym (ap (λ (a : LiveAnswer). a.number) same)))
one_result (Err refusal) (Ok sent) first second same = absurd (first (ap (λ (a : LiveAnswer). a.number) same))
one_result (Err refusal) (Err more) first second same =
    ap (λ (a : LiveAnswer). Err (record { number = a.number; place = a.place; second = a.second })) same

-- and those of a call that puts nothing on the line
pub one_done :
    (one other : Result (Unit {0}) Refusal) → IfErr one (λ refusal. refusal.number ≢ 0) → IfErr other (λ refusal. refusal.number ≢ 0)
    → done_of one ≡ done_of other → one ≡ other
unfolding refusing doing
one_done (Ok done) (Ok also) first second same = refl
one_done (Ok done) (Err refusal) first second same = absurd (second (sym (ap (λ (a : LiveAnswer). a.number) same)))
one_done (Err refusal) (Ok done) first second same = absurd (first (ap (λ (a : LiveAnswer). a.number) same))
one_done (Err refusal) (Err more) first second same =
    ap (λ (a : LiveAnswer). Err (record { number = a.number; place = a.place; second = a.second })) same
