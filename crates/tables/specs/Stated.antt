-- What `read_table` and `row_of` state of their results, which is all of it.
use Rattle.std.specs.Prelude.{ℕ, ◌≡◌, ◌<◌, List, length, Result, Option, None, Some}
use Rattle.input.specs.declared.Refusal.{Refusal}
use Rattle.input.specs.Classes.{Table, tree_of, place_of}
use Rattle.input.specs.Refusals.{or_else, rows_refused, table_refused}
use Rattle.tables.specs.declared.Reading.{Reading}
use Rattle.tables.specs.Judged.{Judged}
use Rattle.tables.specs.Answers.{accepting}

abbrev pub Reads : Table → Result Reading Refusal → Type 0
Reads table r = Judged (or_else (rows_refused table) (table_refused table)) (accepting (tree_of table)) r

-- the first row of the class, below the number of rows; none where there is no such row
abbrev pub Finds : List ℕ → ℕ → Option ℕ → Type 0
Finds identifiers class (Some r) = (r ≡ place_of class identifiers) × (r < length identifiers)
Finds identifiers class None = place_of class identifiers ≡ length identifiers
