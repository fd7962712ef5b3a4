-- An error has a number: of what refuses, and of a result of which it is handed on.
-- Assumes nothing.
use mathlib.Core.Path.{◌≡◌, sym, ◌∙◌, ap}
use mathlib.Core.Logic.{◌≢◌}
use Rattle.std.specs.Prelude.{Result, Ok, Err}
use Rattle.std.specs.Result.{IsErrAnd, IfErr}
use Rattle.input.specs.declared.Refusal.{Refusal}
use Rattle.tables.specs.Judged.{Refuses}

-- an error that a `?` hands on has a number
pub err_number : {A : Type 0} (r : Result A Refusal) (e : Refusal) → IsErrAnd r (λ x. x ≡ e) → e.number ≢ 0 → IfErr r (λ x. x.number ≢ 0)
err_number (Ok x) e none some = tt
err_number (Err x) e same some = rw same some

-- what refuses has a number
pub numbered : (refusal r : Refusal) → Refuses refusal r → r.number ≢ 0
numbered refusal r refuses none = refuses.0 (ap (λ (x : Refusal). x.number) (sym refuses.1) ∙ none)
