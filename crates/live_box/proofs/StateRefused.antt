-- What is refused of a kept state before all else: 3, then 20.
-- Assumes nothing.
use Prim.Native.Nat.{ℕ}
use mathlib.Core.Path.{◌≡◌, refl, ◌∙◌}
use mathlib.Core.Bool.{Bool, true, false, ◌||◌}
use mathlib.Core.List.{List}
use native.Mathlib.Omega.{arith}
use lib.Dec.{ltb}
use lib.ListN.{length}
use Rattle.input.specs.Refusals.{nothing, given, first}
use Rattle.tables.specs.Answers.{refusal_of}
use Rattle.tables.proofs.Firsts.{or_else_first, or_else_second}
use Rattle.live_rules.specs.Layout.{state_words}
use Rattle.live_rules.specs.State.{live_in}
use Rattle.live_rules.specs.Soundness.{sound}
use Rattle.live_rules.specs.Outcomes.{state_refused}

module _ (short : Bool) (words : List ℕ) where
  pub short_refused : short || ltb (length words) state_words ≡ true → state_refused short words ≡ refusal_of 3 0 0
  unfolding state_refused first given
  short_refused is = rw is (or_else_first (refusal_of 3 0 0) _ (λ none. omega arith))

  module _ (room : short || ltb (length words) state_words ≡ false) where
    pub unsound_refused : sound (live_in words) ≡ false → state_refused short words ≡ refusal_of 20 0 0
    unfolding state_refused first given nothing
    unsound_refused is =
        rw (room, is) (or_else_second nothing _ refl ∙ or_else_first (refusal_of 20 0 0) nothing (λ none. omega arith))

    pub sound_passes : sound (live_in words) ≡ true → state_refused short words ≡ nothing
    unfolding state_refused first given nothing
    sound_passes is = rw (room, is) (or_else_second nothing _ refl ∙ or_else_second nothing nothing refl)
