-- The invariant of the loop of `lines::put_report_lines`: the lines of the rows passed are put.
use Rattle.output.specs.Pages.{page_of, Puts}
use Rattle.forms.specs.Texts.{report_lines}
use Rattle.lines.proofs.lent.put_report_lines.Given as goal

abbrev pub invariant-loop-r : goal.invariant-loop-r
invariant-loop-r l = Puts (report_lines l.identifiers l.report l.lags l.r) (page_of l.initial.page l.used-2) (page_of l.page l.used)
