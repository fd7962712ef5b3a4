-- What must be the same as one thing is only one thing.
-- Assumes nothing.
use mathlib.Core.Path.{◌≡◌, sym, ◌∙◌}
use Rattle.words.specs.Unique.{Unique}

pub determined : {A : Type 0} (what : A) → Unique (λ (outcome : A). outcome ≡ what)
determined what one other first second = first ∙ sym second
