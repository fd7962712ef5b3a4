-- What is known of the lent lists of a table that passed the first check.
use Rattle.std.specs.Prelude.{◌≤◌, ◌<◌, ◌≡◌, length}
use Rattle.input.specs.Limits.{most_rows}
use Rattle.input.specs.Classes.{Table}

-- a table whose lists are of one length, with some rows and not too many
pub record Sized (table : Table) : Type 0 where
  pub parents : length table.parent_identifiers ≡ length table.identifiers
  pub shares : length table.shares ≡ length table.identifiers
  pub some : 0 < length table.identifiers
  pub most : length table.identifiers ≤ most_rows
