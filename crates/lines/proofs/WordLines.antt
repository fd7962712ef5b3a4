-- What a turn of a loop over words puts on a page.
-- Assumes nothing.
use Prim.Native.Nat.{ℕ, ◌+◌, ◌<◌}
use mathlib.Core.Path.{◌≡◌, sym, ap, ◌∙◌}
use mathlib.Core.List.{List, ◌++◌}
use native.Mathlib.Numerals.{add-one}
use lib.ListN.{length, get_or, drop}
use lib.Seq.{drop-cons}
use Rattle.output.specs.Pages.{Page, with_text}
use Rattle.output.specs.Numbers.{decimal}
use Rattle.output.proofs.Pages.{with_texts}
use Rattle.forms.specs.Bytes.{line_end}
use Rattle.forms.specs.Texts.{word_lines}

-- what remains of the words' lines, after one line more
pub words_turn :
    (words : List ℕ) (i : ℕ) (now next whole : Page) → i < length words → next ≡ with_text now (decimal (get_or words i 0) ++ line_end)
    → with_text now (word_lines (drop i words)) ≡ whole → with_text next (word_lines (drop (i + 1) words)) ≡ whole
unfolding word_lines
words_turn words i now next whole inside put so_far =
    rw (put, add-one, with_texts) (ap (λ (l : List ℕ). with_text now (word_lines l)) (sym (drop-cons words i 0 inside)) ∙ so_far)
