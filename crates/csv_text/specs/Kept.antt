-- What reading a table asks of its parts: a row goes to its place as its line ends, and what refuses the rows that were read.
use Rattle.std.specs.Prelude.{ℕ, ◌≡◌, ◌≢◌, ◌-◌, ◌≤◌, Bool, Option, Some, None, cond, not, List, [], ◌∷◌, length, set, take}
use Rattle.input.specs.Classes.{Table}
use Rattle.input.specs.declared.Refusal.{Refusal}
use Rattle.input.specs.Refusals.{given, first, table_refused}
use Rattle.input.specs.Lent.{table_of}
use Rattle.forms.specs.declared.Scan.{Scan}
use Rattle.forms.specs.Faults.{ends_row, table_in}
use Rattle.forms.specs.Outcomes.{Rows, count_refused}

-- the slices have room for every row of a text
pub record Room (text : List ℕ) (lent : Table) : Type 0 where
  pub identifiers : length (table_in text).identifiers ≤ length lent.identifiers
  pub parents : length (table_in text).identifiers ≤ length lent.parent_identifiers
  pub shares : length (table_in text).identifiers ≤ length lent.shares

-- a row in its place, where the slices have it
unfoldable pub stored : Table → ℕ → ℕ → ℕ → ℕ → Table
stored lent row identifier parent share =
    table_of (set lent.identifiers row identifier) (set lent.parent_identifiers row parent) (set lent.shares row share)

-- the slices after a byte: the row whose line ends with it is stored
unfoldable pub keeping : Scan → ℕ → Table → Table
keeping scan byte lent = cond (ends_row scan byte) (stored lent (scan.lines - 1) scan.first scan.second scan.third) lent

-- the first rows of these words
unfoldable pub first_rows : ℕ → Table → Table
first_rows rows words = table_of (take rows words.identifiers) (take rows words.parent_identifiers) (take rows words.shares)

-- there are so many rows of these words, and room for them
pub record Copyable (rows : ℕ) (words lent : Table) : Type 0 where
  pub identifiers : rows ≤ length words.identifiers
  pub parents : rows ≤ length words.parent_identifiers
  pub shares : rows ≤ length words.shares
  pub identifiers_room : rows ≤ length lent.identifiers
  pub parents_room : rows ≤ length lent.parent_identifiers
  pub shares_room : rows ≤ length lent.shares

-- what refuses a table whose rows were read into these words, if there is room for them or not
unfoldable pub unfit : Rows → Table → Bool → Refusal
unfit read words room =
    first (read.fault ∷ count_refused read.rows ∷ given (not room) 3 0 ∷ table_refused (first_rows read.rows words) ∷ [])

-- a number, where it is not 0
abbrev pub Numbered : ℕ → Option ℕ → Type 0
Numbered number None = number ≡ 0
Numbered number (Some n) = (number ≢ 0) × (n ≡ number)
