-- What a turn of each loop reads or writes: one word more.
-- Assumes nothing.
use Prim.Native.Nat.{ℕ, zero, suc, ◌+◌, ◌*◌, ◌/◌, ◌%◌, ◌-◌, ◌^◌, ◌≤◌, ◌<◌}
use mathlib.Core.Path.{◌≡◌, refl, sym, ap, ◌∙◌}
use mathlib.Core.List.{List, [], ◌∷◌, ◌++◌, append_assoc, map, map-append}
use native.Mathlib.Numerals.{add-one}
use native.Mathlib.Omega.{arith}
use lib.ListN.{length, get_or, set, take, drop}
use lib.Seq.{sets, sets-eq, length-take-le, take-suc, take-add, drop-cons, drop-drop}
use mir.Syntax.{w32, w64}
use borrow.Rule.Slice.PartMut.{put_mid}
use Rattle.std.specs.Int.{to_le_bytes, from_le_bytes}
use Rattle.std.proofs.lemmas.List.Edits.{paste_all}
use Rattle.std.proofs.lemmas.Slice.{put_mid-paste}
use Rattle.rules.specs.Outcome.{over}
use Rattle.rules.proofs.Over.{over_more}
use Rattle.octets.specs.Octets.{bytes_in, number_of, bytes_of, word_at, words_below}
use Rattle.octets.proofs.Laws.{length_in, length_bytes, length_below, length_map, bytes_more}

-- ── reading ──

pub four_at : (bytes : List ℕ) (k : ℕ) → k + 4 ≤ length bytes
    → take 4 (drop k bytes) ≡ get_or bytes k 0 ∷ get_or bytes (k + 1) 0 ∷ get_or bytes (k + 2) 0 ∷ get_or bytes (k + 3) 0 ∷ []
four_at bytes k inside =
    let second : k + 2 ≡ suc (suc k) = omega arith in
    let third : k + 3 ≡ suc (suc (suc k)) = omega arith in
    rw (
      add-one,
      second,
      third,
      drop-cons bytes k 0 (omega arith),
      drop-cons bytes (suc k) 0 (omega arith),
      drop-cons bytes (suc (suc k)) 0 (omega arith),
      drop-cons bytes (suc (suc (suc k))) 0 (omega arith),
    )

-- a word of eight bytes, by its halves
pub eight_at : (bytes : List ℕ) (k : ℕ) → k + 8 ≤ length bytes
    → take 8 (drop k bytes)
    ≡ get_or bytes k 0 ∷ get_or bytes (k + 1) 0 ∷ get_or bytes (k + 2) 0 ∷ get_or bytes (k + 3) 0
    ∷ get_or bytes (k + 4) 0 ∷ get_or bytes (k + 5) 0 ∷ get_or bytes (k + 6) 0 ∷ get_or bytes (k + 7) 0 ∷ []
eight_at bytes k inside =
    let fifth : k + 4 + 1 ≡ k + 5 = omega arith in
    let sixth : k + 4 + 2 ≡ k + 6 = omega arith in
    let seventh : k + 4 + 3 ≡ k + 7 = omega arith in
    let parts : take 8 (drop k bytes) ≡ take 4 (drop k bytes) ++ take 4 (drop (k + 4) bytes) =
    take-add 4 4 (drop k bytes) ∙ ap (λ (later : List ℕ). take 4 (drop k bytes) ++ take 4 later) (drop-drop 4 k bytes)
    in
    rw (parts, four_at bytes k (omega arith), four_at bytes (k + 4) (omega arith), fifth, sixth, seventh) refl

-- what the library reads of so many bytes is their number
pub read_four : (a b c d : ℕ) → from_le_bytes w32 (a ∷ b ∷ c ∷ d ∷ []) ≡ number_of (a ∷ b ∷ c ∷ d ∷ [])
unfolding number_of
read_four a b c d = omega arith

pub read_eight : (a b c d e f g h : ℕ) → from_le_bytes w64 (a ∷ b ∷ c ∷ d ∷ e ∷ f ∷ g ∷ h ∷ []) ≡ number_of (a ∷ b ∷ c ∷ d ∷ e ∷ f ∷ g ∷ h ∷ [])
unfolding number_of
read_eight a b c d e f g h = omega arith

module _ {A : Type 0} where
  -- a word of any size
  pub word_turn : (size : ℕ) (of : ℕ → A) (bytes : List ℕ) (words now : List A) (i : ℕ) → i < length words
      → now ≡ over (map of (words_below size bytes i)) words
      → set now i (of (word_at size bytes i)) ≡ over (map of (words_below size bytes (i + 1))) words
  unfolding words_below
  word_turn size of bytes words now i room before =
      let long : length (map of (words_below size bytes i)) ≡ i = length_map of (words_below size bytes i) ∙ length_below size bytes i in
      rw (add-one, map-append)
      (over_more (map of (words_below size bytes i)) (of (word_at size bytes i) ∷ []) words now i long (omega arith) before)

  -- ── writing ──

  map_take : (f : A → ℕ) (k : ℕ) (l : List A) → map f (take k l) ≡ take k (map f l)
  map_take f zero l = refl
  map_take f (suc k) [] = refl
  map_take f (suc k) (x ∷ xs) = rw (map_take f k xs)

  pub write_turn : (size : ℕ) (to : A → ℕ) (words : List A) (word : A) (bytes now : List ℕ) (i : ℕ) → i < length words
      → word ≡ get_or words i word → size * i + size ≤ length bytes
      → now ≡ over (bytes_of size (map to (take i words))) bytes
      → sets now (size * i) (bytes_in size (to word)) ≡ over (bytes_of size (map to (take (i + 1) words))) bytes
  write_turn size to words word bytes now i inside here room before =
      let first = map to (take i words) in
      let long : length (bytes_of size first) ≡ size * i = length_bytes size first ∙ rw (length_map to (take i words), length-take-le i words (omega arith)) in
      let more : map to (take (i + 1) words) ≡ first ++ to word ∷ [] = rw (add-one, take-suc words i word inside, map-append, ← here) refl in
      rw (more, bytes_more size first (to word))
      (over_more (bytes_of size first) (bytes_in size (to word)) bytes now (size * i) long (omega (arith, length_in size (to word))) before)

-- a part that is copied over is written byte by byte
pub copied : (bytes part : List ℕ) (at size : ℕ) → length part ≡ size → at + size ≤ length bytes
    → put_mid at (at + size - at) bytes part ≡ sets bytes at part
copied bytes part at size long room =
    put_mid-paste at (at + size - at) bytes part part size refl (omega arith) (sym long)
    ∙ paste_all bytes at part size (sym long)
    ∙ sym (append_assoc (take at bytes) part (drop (at + size) bytes))
    ∙ rw (← long) (sym (sets-eq part bytes at (omega arith)))

-- ── the bytes of one word ──

pub four_in : (word : ℕ) → to_le_bytes w32 word ≡ bytes_in 4 word
unfolding bytes_in
four_in word =
    let second : word / 256 ^ 1 % 256 ≡ word / 256 % 256 = omega arith in
    let third : word / 256 ^ 2 % 256 ≡ word / 256 / 256 % 256 = omega arith in
    let fourth : word / 256 ^ 3 % 256 ≡ word / 256 / 256 / 256 % 256 = omega arith in
    rw (second, third, fourth) refl

pub eight_in : (word : ℕ) → to_le_bytes w64 word ≡ bytes_in 8 word
unfolding bytes_in
eight_in word =
    let second : word / 256 ^ 1 % 256 ≡ word / 256 % 256 = omega arith in
    let third : word / 256 ^ 2 % 256 ≡ word / 256 / 256 % 256 = omega arith in
    let fourth : word / 256 ^ 3 % 256 ≡ word / 256 / 256 / 256 % 256 = omega arith in
    let fifth : word / 256 ^ 4 % 256 ≡ word / 256 / 256 / 256 / 256 % 256 = omega arith in
    let sixth : word / 256 ^ 5 % 256 ≡ word / 256 / 256 / 256 / 256 / 256 % 256 = omega arith in
    let seventh : word / 256 ^ 6 % 256 ≡ word / 256 / 256 / 256 / 256 / 256 / 256 % 256 = omega arith in
    let eighth : word / 256 ^ 7 % 256 ≡ word / 256 / 256 / 256 / 256 / 256 / 256 / 256 % 256 = omega arith in
    rw (second, third, fourth, fifth, sixth, seventh, eighth) refl
