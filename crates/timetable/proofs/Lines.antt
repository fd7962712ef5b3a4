-- The line of a packet as the parts that are put one after the other, and what a turn of the loop over packets puts.
-- Assumes nothing.
use Prim.Native.Nat.{ℕ, ◌+◌, ◌-◌, ◌<◌, max}
use mathlib.Core.Path.{◌≡◌, sym, ap, ◌∙◌}
use mathlib.Core.List.{List, [], ◌∷◌, ◌++◌, append_assoc}
use native.Mathlib.Numerals.{add-one}
use lib.ListN.{length, get_or, drop}
use lib.Seq.{drop-cons}
use Rattle.input.specs.Events.{Events, class_word, length_word}
use Rattle.output.specs.Pages.{Page, with_text}
use Rattle.output.specs.Numbers.{decimal}
use Rattle.output.proofs.Pages.{with_texts}
use Rattle.forms.specs.Bytes.{comma, line_end}
use Rattle.pcap.specs.Lists.{sending}
use Rattle.pcap.specs.Printed.{record_of, arrived_at, free_after, packet_line, packet_lines}
use Rattle.timetable.specs.Free.{free_through}

pub names_parts :
    (a b c d : ℕ)
    → (decimal a ++ comma ∷ []) ++ ((decimal b ++ comma ∷ []) ++ ((decimal c ++ comma ∷ []) ++ (decimal d ++ comma ∷ [])))
    ≡ decimal a ++ comma ∷ decimal b ++ comma ∷ decimal c ++ comma ∷ decimal d ++ comma ∷ []
names_parts a b c d = simp append_assoc

pub moments_parts :
    (a s f : ℕ)
    → (decimal a ++ comma ∷ []) ++ ((decimal s ++ comma ∷ []) ++ (decimal f ++ line_end))
    ≡ decimal a ++ comma ∷ decimal s ++ comma ∷ decimal f ++ line_end
moments_parts a s f = simp append_assoc

-- a comma, and then what stands after it
comma_then : (names a s f e : List ℕ) → (names ++ comma ∷ []) ++ (a ++ s ++ f ++ e) ≡ names ++ comma ∷ a ++ s ++ f ++ e
comma_then names a s f e = simp append_assoc

module _ (stamps : List ℕ) (rate : ℕ) (events : Events) where
  -- a line from its numbers
  pub line_parts :
      (free i r c l a s f : ℕ) → r ≡ record_of events i → c ≡ class_word events i → l ≡ length_word events i
      → a ≡ get_or stamps r 0 - get_or stamps 0 0 → s ≡ max free a → f ≡ s + sending rate l
      → (decimal i ++ comma ∷ decimal r ++ comma ∷ decimal c ++ comma ∷ decimal l ++ comma ∷ [])
      ++ (decimal a ++ comma ∷ decimal s ++ comma ∷ decimal f ++ line_end)
      ≡ packet_line stamps rate events free i
  unfolding packet_line free_after arrived_at
  line_parts free i r c l a s f known class bytes arrived sent finished =
      comma_then (decimal i ++ comma ∷ decimal r ++ comma ∷ decimal c ++ comma ∷ decimal l) (decimal a) (comma ∷ decimal s) (comma ∷ decimal f) line_end
      ∙ rw (finished, sent, arrived, known, class, bytes)

  pub finished_at :
      (free i r l a s f : ℕ) → r ≡ record_of events i → l ≡ length_word events i → a ≡ get_or stamps r 0 - get_or stamps 0 0 → s ≡ max free a
      → f ≡ s + sending rate l → f ≡ free_after stamps rate events free i
  unfolding free_after arrived_at
  finished_at free i r l a s f known bytes arrived sent finished = rw (finished, sent, arrived, known, bytes)

  -- what remains of the packets, after one more
  module _ (order : List ℕ) (k : ℕ) (inside : k < length order) where
    pub lines_turn :
        (free free' : ℕ) (now next whole : Page) → next ≡ with_text now (packet_line stamps rate events free (get_or order k 0))
        → free' ≡ free_after stamps rate events free (get_or order k 0)
        → with_text now (packet_lines stamps rate events free (drop k order)) ≡ whole
        → with_text next (packet_lines stamps rate events free' (drop (k + 1) order)) ≡ whole
    unfolding packet_lines
    lines_turn free free' now next whole put moved so_far =
        rw (put, moved, add-one, with_texts)
        (ap (λ (l : List ℕ). with_text now (packet_lines stamps rate events free l)) (sym (drop-cons order k 0 inside)) ∙ so_far)

    pub free_turn :
        (free free' last : ℕ) → free' ≡ free_after stamps rate events free (get_or order k 0)
        → free_through stamps rate events free (drop k order) ≡ last
        → free_through stamps rate events free' (drop (k + 1) order) ≡ last
    unfolding free_through
    free_turn free free' last moved so_far =
        rw (moved, add-one) (ap (free_through stamps rate events free) (sym (drop-cons order k 0 inside)) ∙ so_far)
