-- `fill` meets its contract: what remains of the template, put on the page as it is, is all of it put on the page as it was.
-- Assumes nothing.
use mathlib.Core.Path.{◌≡◌}
use lib.ListN.{drop}
use Rattle.output.specs.Pages.{page_of, with_text}
use Rattle.sentences.specs.Filled.{filled}
use Rattle.sentences.proofs.lent.fill.Given as goal

abbrev pub invariant-loop-byte : goal.invariant-loop-byte
invariant-loop-byte l =
    with_text (page_of l.page l.used) (filled (drop l.byte-index l.template) l.numbers.rest.now) ≡ with_text (page_of l.initial.page l.used-2) (filled l.template l.numbers-2)
