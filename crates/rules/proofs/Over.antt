-- Words written over a lent slice, some after others.
-- Assumes nothing.
use Prim.Native.Nat.{ℕ, ◌+◌, ◌≤◌}
use mathlib.Core.Path.{◌≡◌, ◌∙◌}
use mathlib.Core.List.{List, ◌++◌}
use native.Mathlib.Omega.{arith}
use lib.ListN.{length, drop, take, length-append, length-drop}
use lib.Seq.{sets, sets-eq, take-append_seam, drop-append-add, drop-drop}
use Rattle.rules.specs.Outcome.{over}

module _ {A : Type 0} where
  length_over : (ws lent : List A) → length ws ≤ length lent → length (over ws lent) ≡ length lent
  unfolding over
  length_over ws lent room = simp (length-append, length-drop) (omega arith)

  -- more words after those that are written
  pub over_more : (ws vs lent now : List A) (n : ℕ) → length ws ≡ n → n + length vs ≤ length lent → now ≡ over ws lent
      → sets now n vs ≡ over (ws ++ vs) lent
  unfolding over
  over_more ws vs lent now n size room written =
      let whole = length_over ws lent (omega arith) in
      rw (written, ← size) (sets-eq vs (over ws lent) (length ws) (omega arith) ∙ rest)
    where
      rest : take (length ws) (over ws lent) ++ vs ++ drop (length ws + length vs) (over ws lent) ≡ over (ws ++ vs) lent
      rest = rw (take-append_seam, drop-append-add, drop-drop, length-append)
