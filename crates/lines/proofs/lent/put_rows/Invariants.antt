-- The invariant of the loop of `lines::put_rows`: the lines of the rows passed are put.
use Rattle.output.specs.Pages.{page_of, Puts}
use Rattle.forms.specs.Texts.{row_lines}
use Rattle.input.specs.Lent.{table_of}
use Rattle.lines.proofs.lent.put_rows.Given as goal

abbrev pub invariant-loop-r : goal.invariant-loop-r
invariant-loop-r l = Puts (row_lines (table_of l.identifiers l.parents l.shares) l.r) (page_of l.initial.page l.used-2) (page_of l.page l.used)
