-- Which refusals a call on a kept state can give, and when it gives those of the state.
-- Assumes nothing.
use Prim.Native.Nat.{ℕ, ◌≤◌}
use mathlib.Core.Path.{◌≡◌, refl, sym, ap, ◌∙◌}
use mathlib.Core.Logic.{◌≢◌}
use mathlib.Core.Bool.{Bool, true, false, cond, ◌||◌}
use mathlib.Core.List.{List, [], ◌∷◌}
use native.Mathlib.Omega.{arith}
use lib.Dec.{ltb, eqb}
use lib.ListN.{length}
use borrow.Author.Tests.{eqb-true, eq-eqb, ne_eqb}
use Rattle.input.specs.declared.Event.{Event}
use Rattle.input.specs.declared.Event.TheVariants.{Arrival, Finish}
use Rattle.input.specs.declared.Refusal.{Refusal}
use Rattle.input.specs.Classes.{Tree}
use Rattle.input.specs.Refusals.{nothing, given, or_else, first, packet_refused, meeting_refused}
use Rattle.rules.specs.Refused.{idle}
use Rattle.live_rules.specs.Layout.{state_words}
use Rattle.live_rules.specs.State.{Live, box_of, live_in}
use Rattle.live_rules.specs.Soundness.{sound}
use Rattle.live_rules.specs.Taking.{full_refused, event_refused}
use Rattle.live_rules.specs.Outcomes.{state_refused}

-- ── the first of several ──

pub first_here : (x : Refusal) (xs : List Refusal) → x.number ≢ 0 → first (x ∷ xs) ≡ x
unfolding first or_else
first_here x xs some = rw (ne_eqb x.number 0 some)

pub first_next : (x : Refusal) (xs : List Refusal) → x.number ≡ 0 → first (x ∷ xs) ≡ first xs
unfolding first or_else
first_next x xs none = rw (eq-eqb x.number 0 none)

-- nothing behind it changes the number
or_last : (x y : Refusal) → y.number ≡ 0 → (or_else x y).number ≡ x.number
unfolding or_else
or_last x y none = go (eqb x.number 0) refl
  where
    go : (b : Bool) → eqb x.number 0 ≡ b → (cond b y x).number ≡ x.number
    go true is = none ∙ sym (eqb-true x.number 0 is)
    go false is = refl

pub first_last : (x : Refusal) → (first (x ∷ [])).number ≡ x.number
unfolding first nothing
first_last x = or_last x nothing refl

pub first_alone : (x : Refusal) → (first (x ∷ nothing ∷ [])).number ≡ x.number
unfolding first or_else nothing
first_alone x = or_last x nothing refl

pub or_next : (x y : Refusal) → x.number ≡ 0 → or_else x y ≡ y
unfolding or_else
or_next x y none = rw (eq-eqb x.number 0 none)

-- ── whatever the place ──

given_number : (test : Bool) (number i j : ℕ) → (given test number i).number ≡ (given test number j).number
unfolding given
given_number true number i j = refl
given_number false number i j = refl

or_number : (x y v w : Refusal) → x.number ≡ v.number → y.number ≡ w.number → (or_else x y).number ≡ (or_else v w).number
unfolding or_else
or_number x y v w one other = ap (λ (n : ℕ). (cond (eqb n 0) y x).number) one ∙ go (eqb v.number 0)
  where
    go : (b : Bool) → (cond b y x).number ≡ (cond b w v).number
    go true = other
    go false = one

last_number : (x v : Refusal) → x.number ≡ v.number → (first (x ∷ [])).number ≡ (first (v ∷ [])).number
unfolding first
last_number x v one = or_number x nothing v nothing one refl

-- an event is refused with the number that it has at any place
pub meeting_number :
    (tree : Tree) (i j word : ℕ) (e : Event) (idles : Bool) → (meeting_refused tree i word e idles).number ≡ (meeting_refused tree j word e idles).number
unfolding meeting_refused packet_refused first
meeting_number tree i j word (Arrival class size) idles =
    or_number (given _ 11 i) _ (given _ 11 j) _ (given_number _ 11 i j)
    (or_number (given _ 12 i) _ (given _ 12 j) _ (given_number _ 12 i j) (last_number (given _ 13 i) (given _ 13 j) (given_number _ 13 i j)))
meeting_number tree i j word Finish idles =
    or_number (given _ 13 i) _ (given _ 13 j) _ (given_number _ 13 i j) (last_number (given _ 14 i) (given _ 14 j) (given_number _ 14 i j))

-- ── what all refusals have that can be given ──

-- with no place
abbrev pub numbered : ℕ → Refusal
numbered number = record { number = number; place = 0; second = 0 }

module _ (has : Refusal → Type 0) (none : has nothing) where
  given_has : (test : Bool) (number : ℕ) → has (numbered number) → has (given test number 0)
  unfolding given
  given_has true number refused = refused
  given_has false number refused = none

  or_has : (x y : Refusal) → has x → has y → has (or_else x y)
  unfolding or_else
  or_has x y one other = go (eqb x.number 0)
    where
      go : (b : Bool) → has (cond b y x)
      go true = other
      go false = one

  last_has : (x : Refusal) → has x → has (first (x ∷ []))
  unfolding first
  last_has x one = or_has x nothing one none

  state_has : has (numbered 3) → has (numbered 20) → (short : Bool) (words : List ℕ) → has (state_refused short words)
  unfolding state_refused first
  state_has three twenty short words =
      or_has (given _ 3 0) _ (given_has _ 3 three) (last_has (given _ 20 0) (given_has _ 20 twenty))

  module _ (each : (number : ℕ) → 11 ≤ number → number ≤ 14 → has (numbered number)) where
    meeting_has : (tree : Tree) (word : ℕ) (e : Event) (idles : Bool) → has (meeting_refused tree 0 word e idles)
    unfolding meeting_refused packet_refused first
    meeting_has tree word (Arrival class size) idles =
        or_has (given _ 11 0) _ (given_has _ 11 (each 11 (omega arith) (omega arith)))
        (or_has (given _ 12 0) _ (given_has _ 12 (each 12 (omega arith) (omega arith)))
        (last_has (given _ 13 0) (given_has _ 13 (each 13 (omega arith) (omega arith)))))
    meeting_has tree word Finish idles =
        or_has (given _ 13 0) _ (given_has _ 13 (each 13 (omega arith) (omega arith)))
        (last_has (given _ 14 0) (given_has _ 14 (each 14 (omega arith) (omega arith))))

    -- a finish, which no box is too full for
    pub finish_has : (live : Live) (word : ℕ) → has (event_refused live word Finish)
    unfolding event_refused full_refused
    finish_has live word = or_has (meeting_refused live.tree 0 word Finish (idle (box_of live))) nothing (meeting_has live.tree word Finish (idle (box_of live))) none

    module _ (accepted : has (numbered 21)) (held : has (numbered 22)) where
      full_has : (live : Live) (e : Event) → has (full_refused live e)
      unfolding full_refused first
      full_has live (Arrival class size) =
          or_has (given _ 21 0) _ (given_has _ 21 accepted) (last_has (given _ 22 0) (given_has _ 22 held))
      full_has live Finish = none

      pub event_has : (live : Live) (word : ℕ) (e : Event) → has (event_refused live word e)
      unfolding event_refused
      event_has live word e =
          or_has (meeting_refused live.tree 0 word e (idle (box_of live))) (full_refused live e)
          (meeting_has live.tree word e (idle (box_of live))) (full_has live e)

  -- of a call
  pub call_has :
      (words : List ℕ) → has (numbered 3) → has (numbered 20) → (rest : Refusal) → has rest → has (first (state_refused false words ∷ rest ∷ []))
  unfolding first
  call_has words three twenty rest one =
      or_has (state_refused false words) _ (state_has three twenty false words) (last_has rest one)

-- ── what is refused of the state ──

module _ (short : Bool) (words : List ℕ) where
  pub state_short : short || ltb (length words) state_words ≡ true → state_refused short words ≡ numbered 3
  unfolding state_refused first or_else given
  state_short is = rw is

  module _ (long : short || ltb (length words) state_words ≡ false) where
    pub state_unsound : sound (live_in words) ≡ false → state_refused short words ≡ numbered 20
    unfolding state_refused first or_else given nothing
    state_unsound is = rw (long, is)

    pub state_fine : sound (live_in words) ≡ true → state_refused short words ≡ nothing
    unfolding state_refused first or_else given nothing
    state_fine is = rw (long, is)
