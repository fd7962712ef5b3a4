-- The contracts leave no choice: no two different outcomes meet one. Of what is put on a page the crate `output` says so.
-- Assumes nothing.
use Prim.Native.Nat.{ℕ, ◌≤◌}
use mathlib.Core.Path.{◌≡◌, sym, ◌∙◌}
use mathlib.Core.List.{List, []}
use native.Mathlib.Decide.{dec_le}
use native.Mathlib.Omega.{arith}
use lib.ListN.{length, get_or}
use lib.Seq.{ext_get_or}
use Rattle.words.specs.Unique.{Unique}
use Rattle.timetable.specs.Counted.{Counts}

pub one_counting : (classes before : List ℕ) → Unique (Counts classes before)
one_counting classes before one other first second =
    ext_get_or 0 one other (first.room ∙ sym second.room) (λ i inside. go i (dec_le i (length classes)))
  where
    go : (i : ℕ) → Dec (i ≤ length classes) → get_or one i 0 ≡ get_or other i 0
    go i (yes within) = first.recorded [] i within ∙ sym (second.recorded [] i within)
    go i (no beyond) = first.rest i (omega arith) ∙ sym (second.rest i (omega arith))
