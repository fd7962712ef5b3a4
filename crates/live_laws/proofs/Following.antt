-- A list with one event more: the events before it, and what the run makes of them, are the same.
-- Assumes nothing.
use Prim.Native.Nat.{ℕ, suc, ◌<◌}
use mathlib.Core.Path.{◌≡◌, sym, ap, ◌∙◌}
use mathlib.Core.List.{[], ◌∷◌}
use native.Mathlib.Omega.{arith}
use lib.ListN.{length, length-append}
use lib.Seq.{take-append_seam, take_at, get_or-append_seam, get_or_at}
use Rattle.input.specs.Classes.{Tree}
use Rattle.input.specs.Events.{Events, count, length_word, decode, event}
use Rattle.rules.specs.Steps.{step, after}
use Rattle.rules.specs.Refused.{event_refused}
use Rattle.laws.specs.Shorter.{first_events}
use Rattle.laws.proofs.Outcome.Shorter.{first_after, first_refused}
use Rattle.live_laws.specs.Calls.{followed_by}

module _ (events : Events) (class size : ℕ) where
  abbrev more : Events
  more = followed_by events class size

  pub followed_count : count (followed_by events class size) ≡ suc (count events)
  unfolding followed_by
  followed_count = length-append events.classes (class ∷ []) ∙ omega arith

  module _ (even : length events.lengths ≡ count events) where
    pub followed_even : length (followed_by events class size).lengths ≡ count (followed_by events class size)
    unfolding followed_by
    followed_even = length-append events.lengths (size ∷ []) ∙ rw even (sym (length-append events.classes (class ∷ [])))

    -- ── the last ──

    pub followed_length : length_word (followed_by events class size) (count events) ≡ size
    unfolding followed_by
    followed_length = get_or_at events.lengths size [] 0 (count events) even

    pub followed_event : event (followed_by events class size) (count events) ≡ decode class size
    unfolding event followed_by
    followed_event = rw (get_or-append_seam events.classes class [] 0, get_or_at events.lengths size [] 0 (count events) even)

    -- ── those before ──

    first_of : first_events (count events) more ≡ events
    unfolding followed_by first_events
    first_of = rw (take-append_seam events.classes (class ∷ []), take_at events.lengths (size ∷ []) (count events) even)

    module _ (tree : Tree) where
      pub followed_refused : (i : ℕ) → i < count events → event_refused tree (followed_by events class size) i ≡ event_refused tree events i
      followed_refused i before =
          sym (first_refused more (count events) tree i before) ∙ ap (λ (es : Events). event_refused tree es i) first_of

      pub before_last : after tree (followed_by events class size) (count events) ≡ after tree events (count events)
      before_last =
          sym (first_after more (count events) tree (count events) (omega arith)) ∙ ap (λ (es : Events). after tree es (count events)) first_of

      pub after_last :
          after tree (followed_by events class size) (count (followed_by events class size))
          ≡ step tree (count events) (decode class size) (after tree events (count events))
      unfolding after
      after_last = rw (followed_count, followed_event, before_last)
