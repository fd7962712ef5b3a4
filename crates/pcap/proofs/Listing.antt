-- The list that arrivals make, event by event: what each place of it holds, which box it reaches, and what refuses it.
-- Assumes nothing.
use Prim.Native.Nat.{ℕ, zero, suc, ◌+◌, ◌*◌, ◌≤◌, ◌<◌}
use mathlib.Core.Path.{◌≡◌, refl, sym, ap, ap₂, ◌∙◌}
use mathlib.Core.List.{List, [], ◌∷◌, ◌++◌}
use native.Mathlib.Decide.{dec_lt}
use native.Mathlib.Omega.{arith}
use lib.ListN.{length, get_or, length-append, get_or-append}
use lib.Seq.{get_or_at}
use Rattle.input.specs.declared.Event.{Event}
use Rattle.input.specs.declared.Refusal.{Refusal}
use Rattle.input.specs.Classes.{Tree}
use Rattle.input.specs.Events.{Events, count, class_word, length_word, decode, event}
use Rattle.input.specs.Refusals.{meeting_refused}
use Rattle.rules.specs.Box.{Box}
use Rattle.rules.specs.Steps.{step, after}
use Rattle.rules.specs.Refused.{idle, event_refused}
use Rattle.pcap.specs.Lists.{Arrivals, Progress, class_next, length_next, proceeds, progress, listed}

-- a list that grows by one entry at a time
module _ (lists : ℕ → List ℕ) (entry : ℕ → ℕ) (none : lists 0 ≡ []) (next : (n : ℕ) → lists (suc n) ≡ lists n ++ entry n ∷ []) where
  pub grown_length : (n : ℕ) → length (lists n) ≡ n
  grown_length zero = ap length none
  grown_length (suc n) = rw (next n) (omega (arith, length-append (lists n) (entry n ∷ []), grown_length n))

  pub grown_at : (n i : ℕ) → i < n → get_or (lists n) i 0 ≡ entry i
  grown_at zero i inside = absurd (omega arith)
  grown_at (suc n) i inside = rw (next n) (go (dec_lt i n) (grown_at n i))
    where
      go : Dec (i < n) → (i < n → get_or (lists n) i 0 ≡ entry i) → get_or (lists n ++ entry n ∷ []) i 0 ≡ entry i
      go (yes earlier) before = get_or-append (lists n) (entry n ∷ []) 0 i (omega (arith, grown_length n)) ∙ before earlier
      go (no last) before =
          let same : n ≡ i = omega arith in
          get_or_at (lists n) (entry n) [] 0 i (grown_length n ∙ same) ∙ ap entry same

module _ (tree : Tree) (arrivals : Arrivals) (rate : ℕ) where
  abbrev pub at : ℕ → Progress
  at i = progress tree arrivals rate i

  abbrev pub events : ℕ → Events
  events n = listed tree arrivals rate n

  -- the event at place i, whatever its words
  abbrev pub coming : ℕ → Event
  coming i = decode (class_next arrivals (at i)) (length_next arrivals (at i))

  pub listed_count : (n : ℕ) → count (events n) ≡ n
  unfolding listed
  listed_count = grown_length (λ n. (events n).classes) (λ n. class_next arrivals (at n)) refl (λ n. refl)

  pub listed_even : (n : ℕ) → length (events n).lengths ≡ n
  unfolding listed
  listed_even = grown_length (λ n. (events n).lengths) (λ n. length_next arrivals (at n)) refl (λ n. refl)

  pub class_listed : (n i : ℕ) → i < n → class_word (events n) i ≡ class_next arrivals (at i)
  unfolding listed
  class_listed = grown_at (λ n. (events n).classes) (λ n. class_next arrivals (at n)) refl (λ n. refl)

  pub length_listed : (n i : ℕ) → i < n → length_word (events n) i ≡ length_next arrivals (at i)
  unfolding listed
  length_listed = grown_at (λ n. (events n).lengths) (λ n. length_next arrivals (at n)) refl (λ n. refl)

  pub event_listed : (n i : ℕ) → i < n → event (events n) i ≡ coming i
  unfolding event
  event_listed n i inside = rw (class_listed n i inside, length_listed n i inside)

  first_box : after tree (events 0) 0 ≡ (at 0).box
  unfolding after progress
  first_box = refl

  next_box : (i : ℕ) → (at (suc i)).box ≡ step tree i (coming i) (at i).box
  unfolding progress proceeds
  next_box i = refl

  none_after : (list other : Events) → after tree list 0 ≡ after tree other 0
  unfolding after
  none_after list other = refl

  next_after : (list : Events) (i : ℕ) → after tree list (suc i) ≡ step tree i (event list i) (after tree list i)
  unfolding after
  next_after list i = refl

  -- the box after the first i events is the one that the list was built with
  pub box_listed : (n i : ℕ) → i ≤ n → after tree (events n) i ≡ (at i).box
  box_listed n zero inside = none_after (events n) (events 0) ∙ first_box
  box_listed n (suc i) inside =
      next_after (events n) i
      ∙ ap₂ (step tree i) (event_listed n i inside) (box_listed n i (omega arith)) ∙ sym (next_box i)

  -- what refuses an event goes by what was before it alone
  abbrev pub coming_refused : ℕ → Refusal
  coming_refused i = meeting_refused tree i (length_next arrivals (at i)) (coming i) (idle (at i).box)

  pub refused_listed : (n i : ℕ) → i < n → event_refused tree (events n) i ≡ coming_refused i
  unfolding event_refused
  refused_listed n i inside = rw (length_listed n i inside, event_listed n i inside, box_listed n i (omega arith))
