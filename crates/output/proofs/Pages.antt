-- The laws of a page: one text after another is both at once, and where there is room the page begins with all of it.
-- Assumes nothing.
use Prim.Native.Nat.{ℕ, suc, ◌+◌, ◌≤◌, ◌<◌}
use mathlib.Core.Path.{◌≡◌, refl, sym, ap, ◌∙◌}
use mathlib.Core.List.{List, [], ◌∷◌, ◌++◌, append_assoc, append-nil}
use native.Mathlib.Numerals.{add-one}
use native.Mathlib.Omega.{arith}
use lib.ListN.{length, get_or, drop, set, length-append, length-drop, length-set}
use lib.Seq.{drop-cons, set-append_seam}
use mathlib.Core.Bool.{Bool, true, false, cond}
use lib.Dec.{ltb}
use borrow.Author.Tests.{ltb-true, lt-ltb, le-ltb}
use Rattle.output.specs.Pages.{Page, page_of, with_byte, with_text, Puts}

-- ── one after the other ──

pub with_texts : (page : Page) (a b : List ℕ) → with_text (with_text page a) b ≡ with_text page (a ++ b)
unfolding with_text
with_texts page [] b = refl
with_texts page (byte ∷ a) b = with_texts (with_byte page byte) a b

-- a text, then another
pub then :
    {second third : Page} (first : Page) (a b : List ℕ)
    → second ≡ with_text first a → third ≡ with_text second b → third ≡ with_text first (a ++ b)
then first a b one two = two ∙ ap (λ (page : Page). with_text page b) one ∙ with_texts first a b

-- ── one byte ──

pub byte_put : (bytes : List ℕ) (used byte : ℕ) → used < length bytes → Puts (byte ∷ []) (page_of bytes used) (page_of (set bytes used byte) (used + 1))
unfolding with_text with_byte
byte_put bytes used byte room = rw (lt-ltb used (length bytes) room, add-one)

pub byte_left : (bytes : List ℕ) (used byte : ℕ) → length bytes ≤ used → Puts (byte ∷ []) (page_of bytes used) (page_of bytes used)
unfolding with_text with_byte
byte_left bytes used byte full = rw (le-ltb used (length bytes) full)

-- never more used than there are
byte_within : (page : Page) (byte : ℕ) → page.used ≤ length page.bytes → (with_byte page byte).used ≤ length (with_byte page byte).bytes
unfolding with_byte
byte_within page byte some = go (ltb page.used (length page.bytes)) refl
  where
    go : (room : Bool) → ltb page.used (length page.bytes) ≡ room
        → (cond room (page_of (set page.bytes page.used byte) (suc page.used)) page).used ≤ length (cond room (page_of (set page.bytes page.used byte) (suc page.used)) page).bytes
    go true e = let room = ltb-true page.used (length page.bytes) e in let size = length-set page.bytes page.used byte in omega arith
    go false e = some

texts_within : (page : Page) (text : List ℕ) → page.used ≤ length page.bytes → (with_text page text).used ≤ length (with_text page text).bytes
unfolding with_text
texts_within page [] some = some
texts_within page (byte ∷ text) some = texts_within (with_byte page byte) text (byte_within page byte some)

pub within : (text bytes bytes' : List ℕ) (used used' : ℕ) → used ≤ length bytes → Puts text (page_of bytes used) (page_of bytes' used') → used' ≤ length bytes'
within text bytes bytes' used used' some put =
    let least : (with_text (page_of bytes used) text).used ≤ length (with_text (page_of bytes used) text).bytes = texts_within (page_of bytes used) text some in
    rw (← put) at least

-- what remains of a text, after one byte more of it
pub text_turn :
    (text : List ℕ) (i : ℕ) (now next whole : Page) → i < length text → next ≡ with_text now (get_or text i 0 ∷ [])
    → with_text now (drop i text) ≡ whole → with_text next (drop (i + 1) text) ≡ whole
unfolding with_text
text_turn text i now next whole inside put so_far =
    rw (put, add-one) (ap (with_text now) (sym (drop-cons text i 0 inside)) ∙ so_far)

-- ── where there is room ──

module _ (bytes : List ℕ) where
  -- the page that begins with these bytes
  abbrev beginning : List ℕ → Page
  beginning text = page_of (text ++ drop (length text) bytes) (length text)

  longer : (text : List ℕ) (byte : ℕ) → length text < length bytes → with_byte (beginning text) byte ≡ beginning (text ++ byte ∷ [])
  unfolding with_byte
  longer text byte room =
      let all : length (text ++ drop (length text) bytes) ≡ length bytes = simp (length-append, length-drop) (omega arith) in
      let size : length (text ++ byte ∷ []) ≡ suc (length text) = simp length-append (omega arith) in
      rw (all, lt-ltb (length text) (length bytes) room, size, drop-cons bytes (length text) 0 room, set-append_seam, append_assoc)

  grown : (before text : List ℕ) → length before + length text ≤ length bytes → with_text (beginning before) text ≡ beginning (before ++ text)
  unfolding with_text
  grown before [] room = ap beginning (sym (append-nil before))
  grown before (byte ∷ text) room =
      let size : length (before ++ byte ∷ []) ≡ suc (length before) = simp length-append (omega arith) in
      ap (λ (page : Page). with_text page text) (longer before byte (omega arith))
      ∙ grown (before ++ byte ∷ []) text (omega arith)
      ∙ ap beginning (append_assoc before (byte ∷ []) text)

  -- a text that there is room for stands over the first bytes
  pub with_all :
      (text : List ℕ) → length text ≤ length bytes
      → with_text (page_of bytes 0) text ≡ page_of (text ++ drop (length text) bytes) (length text)
  with_all text room = grown [] text (omega arith)
