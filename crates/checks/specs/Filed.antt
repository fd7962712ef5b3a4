-- The rows of a table, filed by what goes on the air of their identifiers.
use Rattle.std.specs.Prelude.{ℕ, zero, suc, ◌≤◌, ◌<◌, ◌≡◌, List, length, get_or, set, replicate}
use Rattle.input.specs.Limits.{most_rows, on_air_identifiers}
use Rattle.input.specs.Classes.{on_air}

-- row 0 for each identifier that the modem tells from the others
unfoldable pub none_filed : List ℕ
none_filed = replicate on_air_identifiers 0

-- each of the first n rows at what goes on the air of its identifier
unfoldable pub rows_filed : List ℕ → ℕ → List ℕ
rows_filed identifiers zero = none_filed
rows_filed identifiers (suc r) = set (rows_filed identifiers r) (on_air (get_or identifiers r 0)) r

-- there are some rows and not too many, and these are all of them
pub record AllFiled (identifiers rows : List ℕ) : Type 0 where
  pub some : 0 < length identifiers
  pub few : length identifiers ≤ most_rows
  pub filed : rows ≡ rows_filed identifiers (length identifiers)
