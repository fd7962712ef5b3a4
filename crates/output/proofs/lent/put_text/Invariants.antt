-- `output::put_text` meets its contract. The loop's invariant: what remains of the text, put on the page as it is, is all of it put on the page
-- as it was.
use mathlib.Core.Path.{◌≡◌}
use lib.ListN.{drop}
use Rattle.output.specs.Pages.{page_of, with_text}
use Rattle.output.proofs.lent.put_text.Given as goal

abbrev pub invariant-loop-byte : goal.invariant-loop-byte
invariant-loop-byte l = with_text (page_of l.page l.used) (drop l.byte-index l.text) ≡ with_text (page_of l.initial.page l.used-2) l.text
