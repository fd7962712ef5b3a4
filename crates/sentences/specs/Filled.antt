-- A sentence from a template, in which each mark stands for a number.
use Rattle.std.specs.Prelude.{ℕ, suc, cond, List, [], ◌∷◌, ◌++◌, eqb, get_or}
use Rattle.output.specs.Numbers.{decimal}

-- the byte `#`
abbrev pub mark : ℕ
mark = 35

-- what a byte of a template stands for, where this number is the next
unfoldable pub part : ℕ → ℕ → List ℕ
part byte number = cond (eqb byte mark) (decimal number) (byte ∷ [])

-- which number is the next after this byte
unfoldable pub next_after : ℕ → ℕ → ℕ
next_after byte next = cond (eqb byte mark) (suc next) next

-- a template, of whose numbers this is the next; 0 where there are no more
unfoldable pub filled_from : ℕ → List ℕ → List ℕ → List ℕ
filled_from next [] numbers = []
filled_from next (byte ∷ template) numbers =
    part byte (get_or numbers next 0) ++ filled_from (next_after byte next) template numbers

abbrev pub filled : List ℕ → List ℕ → List ℕ
filled template numbers = filled_from 0 template numbers
