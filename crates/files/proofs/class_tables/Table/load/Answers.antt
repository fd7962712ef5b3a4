-- `Table::load` meets its contract: what `load_table` says of the columns is said of the table's.
-- Assumes nothing.
use Rattle.files.specs.Tables.{no_columns}
use Rattle.files.proofs.class_tables.Table.load.Goals as goal

pub returns : goal.returns
unfolding no_columns
returns g c = c.in_ok-table.ensures
