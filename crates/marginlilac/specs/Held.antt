-- What the run on bytes asks of its parts.
use Rattle.std.specs.Prelude.{ℕ, ◌/◌, ◌≤◌, ◌≡◌, List, length}
use Rattle.input.specs.Limits.{most_rows, most_events}
use Rattle.rules.specs.Outcome.{room_of}
use Rattle.checks.specs.Counted.{lengths_refused}
use Rattle.octets.specs.Octets.{AllBelow}
use Rattle.marginlilac.specs.Exported.{LentBytes, spare_of, words_lent}

-- the arrays have room for the words of these bytes
pub record Held (identifiers parents shares classes lengths : List ℕ) : Type 0 where
  pub few_rows : length identifiers / 4 ≤ most_rows
  pub few_parents : length parents / 4 ≤ most_rows
  pub few_shares : length shares / 4 ≤ most_rows
  pub few_events : length classes / 4 ≤ most_events
  pub few_lengths : length lengths / 4 ≤ most_events

-- the slices that are written hold bytes
pub record Bytes (lent : LentBytes) : Type 0 where
  pub order : AllBelow 256 lent.order
  pub report : AllBelow 256 lent.report
  pub lags : AllBelow 256 lent.lags
  pub working : AllBelow 256 lent.working

-- bytes that are whole words, and no refusal of their lengths
pub record Sized (lent : LentBytes) : Type 0 where
  pub bytes : Bytes lent
  pub none_spare : spare_of lent ≡ 0
  pub four_words : length lent.answer ≡ 16
  pub fine : (lengths_refused (words_lent lent).table (words_lent lent).events (room_of (words_lent lent))).number ≡ 0
