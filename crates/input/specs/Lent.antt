-- Lists as they are lent or kept in arrays, put together as the records of the rules.
use Rattle.std.specs.Prelude.{ℕ, List, length}
use Rattle.input.specs.Classes.{Table, Tree}
use Rattle.input.specs.Events.{Events}
use Rattle.input.specs.Refusals.{Room}

abbrev pub table_of : List ℕ → List ℕ → List ℕ → Table
table_of identifiers parent_identifiers shares = record { identifiers = identifiers; parent_identifiers = parent_identifiers; shares = shares }

abbrev pub events_of : List ℕ → List ℕ → Events
events_of classes lengths = record { classes = classes; lengths = lengths }

-- the lengths of the result slices
abbrev pub room_with : ℕ → ℕ → ℕ → ℕ → Room
room_with order report lags working = record { order = order; report = report; lags = lags; working = working }

abbrev pub tree_with : ℕ → List ℕ → List ℕ → List ℕ → List ℕ → Tree
tree_with rows identifiers parents depths shares =
    record { rows = rows; identifiers = identifiers; parents = parents; depths = depths; shares = shares }

-- the tree of a table that was read
abbrev pub tree_at : List ℕ → List ℕ → List ℕ → List ℕ → Tree
tree_at identifiers parents depths shares = tree_with (length identifiers) identifiers parents depths shares
