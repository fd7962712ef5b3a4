-- What remains of a template and of the numbers for its marks, after one byte more of it.
-- Assumes nothing.
use Prim.Native.Nat.{ℕ, suc, ◌+◌, ◌<◌}
use mathlib.Core.Path.{◌≡◌, refl, sym, ap, ◌∙◌}
use mathlib.Core.Bool.{Bool, true, false, cond}
use mathlib.Core.Logic.{◌≢◌}
use mathlib.Core.List.{List, [], ◌∷◌, ◌++◌}
use native.Mathlib.Numerals.{add-one}
use native.Mathlib.Omega.{arith}
use denote.Ref.{Bor}
use lib.Dec.{eqb}
use lib.ListN.{length, get_or, drop}
use lib.Seq.{drop-cons}
use borrow.Author.Tests.{eq-eqb, ne_eqb}
use Rattle.std.specs.Prelude.{Option, Some, None, MatchOption, unwrap_or, option_copied}
use Rattle.std.specs.declared.slice.Iter.{Iter}
use Rattle.output.specs.Numbers.{decimal}
use Rattle.output.specs.Pages.{Page, with_text}
use Rattle.output.proofs.Pages.{with_texts}
use Rattle.sentences.specs.Filled.{mark, part, next_after, filled_from, filled}

-- ── the numbers that remain ──

-- what an iterator gives and leaves
pub given :
    (r : Option (Bor ℕ)) (before after : Iter ℕ)
    → MatchOption r ((length before.rest.now ≡ 0) × (after ≡ before)) (λ x. before.rest.now ≡ x.now ∷ after.rest.now)
    → (unwrap_or (option_copied r) 0 ≡ get_or before.rest.now 0 0) × (after.rest.now ≡ drop 1 before.rest.now)
given None before after h = go before.rest.now h.0 (ap (λ (it : Iter ℕ). it.rest.now) h.1)
  where
    go : (numbers : List ℕ) → length numbers ≡ 0 → after.rest.now ≡ numbers → (0 ≡ get_or numbers 0 0) × (after.rest.now ≡ drop 1 numbers)
    go [] none same = (refl, same)
    go (n ∷ numbers) none same = absurd (omega arith)
given (Some x) before after h = rw h (refl, refl)

next_suc : (byte next : ℕ) → next_after byte (suc next) ≡ suc (next_after byte next)
unfolding next_after
next_suc byte next = go (eqb byte mark)
  where
    go : (b : Bool) → cond b (suc (suc next)) (suc next) ≡ suc (cond b (suc next) next)
    go true = refl
    go false = refl

later : (next : ℕ) (numbers : List ℕ) → get_or numbers (suc next) 0 ≡ get_or (drop 1 numbers) next 0
later next [] = refl
later next (n ∷ numbers) = refl

-- from the number after the first on, the first has no part in it
shifted : (next : ℕ) (template numbers : List ℕ) → filled_from (suc next) template numbers ≡ filled_from next template (drop 1 numbers)
unfolding filled_from
shifted next [] numbers = refl
shifted next (byte ∷ template) numbers =
    rw (later next numbers, next_suc byte next, shifted (next_after byte next) template numbers) refl

-- ── one byte of the template ──

pub at_mark :
    (byte : ℕ) (template numbers : List ℕ) → byte ≡ mark
    → filled (byte ∷ template) numbers ≡ decimal (get_or numbers 0 0) ++ filled template (drop 1 numbers)
unfolding filled_from part next_after
at_mark byte template numbers is =
    rw (eq-eqb byte mark is) (ap (λ (rest : List ℕ). decimal (get_or numbers 0 0) ++ rest) (shifted 0 template numbers))

pub at_byte : (byte : ℕ) (template numbers : List ℕ) → byte ≢ mark → filled (byte ∷ template) numbers ≡ (byte ∷ []) ++ filled template numbers
unfolding filled_from part next_after
at_byte byte template numbers other = rw (ne_eqb byte mark other) refl

-- what it stands for is put on the page
pub turn :
    (template : List ℕ) (i : ℕ) (text numbers numbers' : List ℕ) (now next whole : Page) → i < length template
    → filled (get_or template i 0 ∷ drop (suc i) template) numbers ≡ text ++ filled (drop (suc i) template) numbers'
    → next ≡ with_text now text → with_text now (filled (drop i template) numbers) ≡ whole
    → with_text next (filled (drop (i + 1) template) numbers') ≡ whole
turn template i text numbers numbers' now next whole inside parts put so_far =
    rw (put, add-one)
    (with_texts now text _
    ∙ ap (with_text now) (sym parts ∙ ap (λ (rest : List ℕ). filled rest numbers) (sym (drop-cons template i 0 inside)))
    ∙ so_far)
