-- A page: its bytes, and how many of them are used. What is put on it comes after what stands there, as far as it has room.
use Rattle.std.specs.Prelude.{ℕ, suc, ◌≡◌, cond, List, [], ◌∷◌, ltb, length, set}

pub record Page : Type 0 where
  pub bytes : List ℕ
  pub used : ℕ

abbrev pub page_of : List ℕ → ℕ → Page
page_of bytes used = record { bytes = bytes; used = used }

-- a page with one byte more; a full one stays as it is
unfoldable pub with_byte : Page → ℕ → Page
with_byte page byte = cond (ltb page.used (length page.bytes)) (page_of (set page.bytes page.used byte) (suc page.used)) page

-- a page with some bytes more, one after the other
unfoldable pub with_text : Page → List ℕ → Page
with_text page [] = page
with_text page (byte ∷ text) = with_text (with_byte page byte) text

-- what each routine states: of the page afterwards and before
abbrev pub Puts : List ℕ → Page → Page → Type 0
Puts text page page' = page' ≡ with_text page text
