-- `lines::put_report` meets its contract: the heading, its end, the rows.
-- Assumes nothing.
use Rattle.output.specs.Quoted.{bytes_of}
use Rattle.forms.specs.Texts.{report_text}
use Rattle.forms.specs.Bytes.{report_heading}
use Rattle.output.proofs.Pages.{then}
use Rattle.lines.proofs.lent.put_report.Goals as goal

pub returns : goal.returns
unfolding report_text report_heading bytes_of
returns c =
    then _ _ _ c.put_text-used.ensures (then _ _ _ c.put_end-used.ensures c.put_report_lines.ensures)
