-- `lines::put_table` meets its contract: the heading, its end, the rows.
-- Assumes nothing.
use Rattle.output.specs.Quoted.{bytes_of}
use Rattle.forms.specs.Texts.{table_text}
use Rattle.forms.specs.Bytes.{table_heading}
use Rattle.output.proofs.Pages.{then}
use Rattle.lines.proofs.lent.put_table.Goals as goal

pub returns : goal.returns
unfolding table_text table_heading bytes_of
returns c =
    then _ _ _ c.put_text-used.ensures (then _ _ _ c.put_end-used.ensures c.put_rows.ensures)
