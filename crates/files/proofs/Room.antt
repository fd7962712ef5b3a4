-- The page that the sentences are put on has room for each of them.
-- Assumes nothing.
use Prim.Native.Nat.{ℕ, ◌+◌, ◌-◌, ◌^◌, ◌≤◌, min}
use mathlib.Core.Path.{◌≡◌, refl, ap, ◌∙◌}
use mathlib.Core.Bool.{Bool, true, false, cond}
use mathlib.Core.List.{List, ◌++◌}
use native.Mathlib.Omega.{arith}
use lib.ListN.{length, take, drop, length-append}
use lib.Seq.{take_at}
use Rattle.text.specs.declared.Fault.{Fault}
use Rattle.text.specs.declared.Fault.TheVariants.{NoEnd, WrongHeading, WrongCount, NoNumber, TooLarge}
use Rattle.text.specs.Reading.{most}
use Rattle.output.specs.Pages.{Page, page_of, with_text, Puts}
use Rattle.output.proofs.Pages.{with_all}
use Rattle.output.proofs.Numbers.{decimal_length}
use Rattle.sentences.specs.Files.{is_input, shown}
use Rattle.files.specs.declared.Unread.{Unread}
use Rattle.files.specs.declared.Unread.TheVariants.{Missing, Folder, Forbidden, LongName, Other}
use Rattle.files.specs.declared.Unwritten.{Unwritten}
use Rattle.files.specs.declared.Unwritten.TheVariants as unwritten_by
use Rattle.files.specs.Sentences.{unread, why, cannot_open, why_unwritten, cannot_write, too_long, field, too_large, fault, line_after, cannot_read}
use Rattle.output.specs.Quoted.{bytes_of}

-- where there is room, what is used of the page is the text
put_whole :
    (text : List ℕ) (page page' : Page) → page.used ≡ 0 → Puts text page page' → length text ≤ length page.bytes
    → take page'.used page'.bytes ≡ text
put_whole text page page' blank put room =
    let over : with_text page text ≡ page_of (text ++ drop (length text) page.bytes) (length text) =
    ap (λ (used : ℕ). with_text (page_of page.bytes used) text) blank ∙ with_all page.bytes text room in
    ap (λ (page : Page). take page.used page.bytes) (put ∙ over) ∙ take_at text (drop (length text) page.bytes) (length text) refl

-- ── the sentences ──

fault_length : (wrong : Fault) → length (fault wrong) ≤ 100
unfolding bytes_of field too_large fault
fault_length NoEnd = omega arith
fault_length WrongHeading = omega arith
fault_length WrongCount = omega arith
fault_length (NoNumber place) = simp length-append (omega (arith, decimal_length place))
fault_length (TooLarge place) = simp length-append (omega (arith, decimal_length place, decimal_length most))

shown_length : (name : List ℕ) → length (shown name) ≤ length name + 14
unfolding bytes_of shown
shown_length name = go (is_input name)
  where
    go : (b : Bool) → length (cond b (bytes_of "standard input") name) ≤ length name + 14
    go true = omega arith
    go false = omega arith

why_length : (reason : Unread) → length (why reason) ≤ 80
unfolding bytes_of why
why_length Missing = omega arith
why_length Folder = omega arith
why_length Forbidden = omega arith
why_length LongName = omega arith
why_length (Other error) = simp length-append (omega (arith, decimal_length error))

open_length : (name : List ℕ) (reason : Unread) → length (cannot_open name reason) ≤ length name + 200
unfolding bytes_of unread cannot_open
open_length name reason = simp length-append (omega (arith, shown_length name, why_length reason))

long_length : (name : List ℕ) (held : ℕ) → length (too_long name held) ≤ length name + 200
unfolding bytes_of unread too_long
long_length name held = simp length-append (omega (arith, shown_length name, decimal_length held))

read_length : (name : List ℕ) (lines : ℕ) (wrong : Fault) → length (cannot_read name lines wrong) ≤ length name + 200
unfolding bytes_of unread line_after cannot_read
read_length name lines wrong =
    simp length-append (omega (arith, shown_length name, decimal_length (min (lines + 1) (2 ^ 64 - 1)), fault_length wrong))

-- an argument is read into 131,072 bytes
module _ (name : List ℕ) (page page' : Page) (short : length name ≤ 131072) (blank : page.used ≡ 0) (room : length page.bytes ≡ 131584) where
  pub opened_whole : (reason : Unread) → Puts (cannot_open name reason) page page' → take page'.used page'.bytes ≡ cannot_open name reason
  opened_whole reason put = put_whole (cannot_open name reason) page page' blank put (omega (arith, open_length name reason))

  pub long_whole : (held : ℕ) → Puts (too_long name held) page page' → take page'.used page'.bytes ≡ too_long name held
  long_whole held put = put_whole (too_long name held) page page' blank put (omega (arith, long_length name held))

  pub read_whole :
      (lines : ℕ) (wrong : Fault) → Puts (cannot_read name lines wrong) page page'
      → take page'.used page'.bytes ≡ cannot_read name lines wrong
  read_whole lines wrong put =
      put_whole (cannot_read name lines wrong) page page' blank put (omega (arith, read_length name lines wrong))

written_length : (reason : Unwritten) → length (why_unwritten reason) ≤ 60
unfolding bytes_of why_unwritten
written_length unwritten_by.Full = omega arith
written_length unwritten_by.Closed = omega arith
written_length (unwritten_by.Other error) = simp length-append (omega (arith, decimal_length error))

write_length : (reason : Unwritten) → length (cannot_write reason) ≤ 90
unfolding bytes_of cannot_write
write_length reason = simp length-append (omega (arith, written_length reason))

pub written_whole :
    (page page' : Page) → page.used ≡ 0 → length page.bytes ≡ 128 → (reason : Unwritten) → Puts (cannot_write reason) page page'
    → take page'.used page'.bytes ≡ cannot_write reason
written_whole page page' blank room reason put =
    put_whole (cannot_write reason) page page' blank put (omega (arith, write_length reason))
