-- The two engines are one in what they leave.
-- Assumes nothing.
use mathlib.Core.Path.{◌≡◌, sym, ◌∙◌}
use Rattle.rules.specs.Outcome.{Lent, Outcome, Ran}

-- whatever is lent: what a run leaves that looks through all children, and what one leaves that keeps heaps, is the same, the answer and every word
-- of every slice. Both are held to `Ran`, by `run`'s contract for either way
pub engines_agree : (lent : Lent) (by_looking by_heaps : Outcome) → Ran lent by_looking → Ran lent by_heaps → by_looking ≡ by_heaps
engines_agree lent by_looking by_heaps one two = one ∙ sym two
