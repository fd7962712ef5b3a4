-- What a check answers, from the first that refuses, of two and of the places below a number.
-- Assumes nothing.
use Prim.Native.Nat.{ℕ, ◌+◌, ◌<◌}
use mathlib.Core.Path.{◌≡◌, refl, sym, ◌∙◌, ap}
use mathlib.Core.Logic.{◌≢◌}
use native.Mathlib.Decide.{ℕ_discrete}
use native.Mathlib.Numerals.{add-one}
use native.Mathlib.Omega.{arith}
use borrow.Author.Tests.{eq-eqb, ne_eqb}
use Rattle.std.proofs.lemmas.Option.{none-some, same_Some}
use Rattle.std.specs.Prelude.{Result, Ok, Err, None, Some}
use Rattle.std.specs.Result.{result_err, IsErrAnd, IfErr}
use Rattle.input.specs.declared.Refusal.{Refusal}
use Rattle.input.specs.Refusals.{nothing, or_else, first_below}
use Rattle.tables.specs.Answers.{refusal_of}
use Rattle.tables.specs.Judged.{Refuses, Judged, verdict}
use Rattle.tables.proofs.Firsts.{or_else_first, or_else_second, stopped}

-- ── one ──

-- an error is what refuses
pub errs : (refused r : Refusal) → r ≡ refused → r.number ≢ 0 → Refuses refused r
errs refused r same some = (λ none. some (ap (λ (x : Refusal). x.number) same ∙ none), same)

-- an error with a number is what refuses
pub refuses : {r refused : Refusal} {number place second : ℕ} → r ≡ refusal_of number place second → 0 < number
    → refused ≡ refusal_of number place second → Refuses refused r
refuses {r} {refused} {number} {place} {second} one some other =
    errs refused r (one ∙ sym other) (rw one (λ none. omega arith))

-- another refusal that is the same, and another thing found that is the same
pub judged_as : {A : Type 0} (one other : Refusal) (found : A) (r : Result A Refusal) → one ≡ other → Judged one found r → Judged other found r
judged_as one other found r same judged = rw (← same) judged

-- an error that a `?` hands on
pub err_is : {A : Type 0} (r : Result A Refusal) (e : Refusal) → IsErrAnd r (λ x. x ≡ e) → r ≡ Err e
err_is (Ok x) e none = absurd none
err_is (Err x) e same = ap Err same

pub handed : {A : Type 0} (refusal : Refusal) (found : A) (r : Result A Refusal) (e : Refusal) → IsErrAnd r (λ x. x ≡ e) → Refuses refusal e → Judged refusal found r
handed refusal found (Ok x) e none judged = absurd none
handed refusal found (Err x) e same judged = rw same judged

-- which has a number
pub handed_number : {A : Type 0} (refusal : Refusal) (r : Result A Refusal) (e : Refusal) → IsErrAnd r (λ x. x ≡ e) → Refuses refusal e → IfErr r (λ x. x.number ≢ 0)
handed_number refusal (Ok x) e none refuses = tt
handed_number refusal (Err x) e same refuses = λ none. refuses.0 (ap (λ (y : Refusal). y.number) (sym (same ∙ refuses.1)) ∙ none)

-- ── two ──

module _ (a b : Refusal) where
  -- the first refuses
  pub at_first : (r : Refusal) → Refuses a r → Refuses (or_else a b) r
  at_first r judged =
      let first = or_else_first a b judged.0 in
      errs (or_else a b) r (judged.1 ∙ sym first) (λ none. judged.0 (ap (λ (x : Refusal). x.number) (sym judged.1) ∙ none))

  -- the first does not
  pub at_second : {A : Type 0} (found : A) (r : Result A Refusal) → a.number ≡ 0 → Judged b found r → Judged (or_else a b) found r
  at_second found r none judged = judged_as b (or_else a b) found r (sym (or_else_second a b none)) judged

-- nothing comes after it
pub at_last : {A : Type 0} (a : Refusal) (found : A) (r : Result A Refusal) → Judged a found r → Judged (or_else a nothing) found r
unfolding nothing
at_last a found (Ok x) judged = (rw (or_else_second a nothing judged.0) refl, judged.1)
at_last a found (Err r) judged = at_first a nothing r judged

-- ── many ──

module _ (at : ℕ → Refusal) where
  -- none before i, and one at i
  pub at_place : (i n : ℕ) (r : Refusal) → i < n → (first_below at i).number ≡ 0 → Refuses (at i) r → Refuses (first_below at n) r
  at_place i n r below none judged =
      let first = stopped at i n below none judged.0 in
      errs (first_below at n) r (judged.1 ∙ sym first) (λ e. judged.0 (ap (λ (x : Refusal). x.number) (sym judged.1) ∙ e))

-- ── what refuses, if anything does ──

pub err_verdict : {A : Type 0} (refusal : Refusal) (found : A) (r : Result A Refusal) → Judged refusal found r → result_err r ≡ verdict refusal
unfolding verdict
err_verdict refusal found (Ok x) judged = rw (eq-eqb refusal.number 0 judged.0) refl
err_verdict refusal found (Err r) judged = rw (ne_eqb refusal.number 0 judged.0) (ap Some judged.1)

pub verdict_none : (refusal : Refusal) → verdict refusal ≡ None → refusal.number ≡ 0
unfolding verdict
verdict_none refusal none = go (ℕ_discrete refusal.number 0)
  where
    go : Dec (refusal.number ≡ 0) → refusal.number ≡ 0
    go (yes zero_is) = zero_is
    go (no some) = absurd (none-some refusal (sym (let h = rw (ne_eqb refusal.number 0 some) at none in h)))

pub verdict_some : (refusal r : Refusal) → verdict refusal ≡ Some r → Refuses refusal r
unfolding verdict
verdict_some refusal r some = go (ℕ_discrete refusal.number 0)
  where
    go : Dec (refusal.number ≡ 0) → Refuses refusal r
    go (yes zero_is) = absurd (none-some r (let h = rw (eq-eqb refusal.number 0 zero_is) at some in h))
    go (no more) = (more, sym (same_Some refusal r (let h = rw (ne_eqb refusal.number 0 more) at some in h)))

-- none before i, and none at i
pub none_more : (at : ℕ → Refusal) (i : ℕ) → (first_below at i).number ≡ 0 → (at i).number ≡ 0 → (first_below at (i + 1)).number ≡ 0
unfolding first_below
none_more at i none here = rw (add-one, or_else_second (first_below at i) (at i) none) here
