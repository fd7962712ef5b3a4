-- The invariant of the loop of `lines::put_words`: the lines of the words that remain, put on the page as it is, are all of them put on the page
-- as it was.
use mathlib.Core.Path.{◌≡◌}
use lib.ListN.{drop}
use Rattle.output.specs.Pages.{page_of, with_text}
use Rattle.forms.specs.Texts.{word_lines}
use Rattle.lines.proofs.lent.put_words.Given as goal

abbrev pub invariant-loop-word : goal.invariant-loop-word
invariant-loop-word l = with_text (page_of l.page l.used) (word_lines (drop l.word-index l.words)) ≡ with_text (page_of l.initial.page l.used-2) (word_lines l.words)
