-- A file's bytes in what is lent for them. Which bytes the system gives nothing can say, nor what a read leaves in the rest of what it
-- is lent.
use Rattle.std.specs.Prelude.{ℕ, suc, ◌≤◌, ◌≡◌, List, length, Result, IfOk}

-- of what is lent, before and after, and the answer: how many bytes the file has, as far as they are counted
pub record Holds {E : Type 0} (before now : List ℕ) (r : Result ℕ E) : Type 0 where
  pub room : length now ≡ length before
  pub within : IfOk r (λ size. size ≤ suc (length before))

-- the same of a file that is held whole or not at all
pub record HoldsAll {E : Type 0} (before now : List ℕ) (r : Result ℕ E) : Type 0 where
  pub room : length now ≡ length before
  pub within : IfOk r (λ size. size ≤ length before)
