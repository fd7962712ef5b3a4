-- Each contract leaves no choice: the bytes of a page and how many are used are what they state, and nothing else.
-- Assumes nothing.
use mathlib.Core.Path.{◌≡◌, sym, ◌∙◌}
use mathlib.Core.List.{List}
use Prim.Native.Nat.{ℕ}
use Rattle.output.specs.Pages.{Page, Puts}

pub one_page : (text : List ℕ) (page : Page) {after after' : Page} → Puts text page after → Puts text page after' → after ≡ after'
one_page text page p q = p ∙ sym q
