-- The invariant of the loop of `lines::put_fields`: the words passed are put, a comma after each.
use Rattle.output.specs.Pages.{page_of, Puts}
use Rattle.forms.specs.Texts.{report_fields}
use Rattle.lines.proofs.lent.put_fields.Given as goal

abbrev pub invariant-loop-j : goal.invariant-loop-j
invariant-loop-j l = Puts (report_fields l.report l.row l.j) (page_of l.initial.page l.used-2) (page_of l.page l.used)
