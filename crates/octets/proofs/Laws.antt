-- Words as bytes: what was written is read, what was read is written, how long each is, and words over others as bytes over others.
-- Assumes nothing.
use Prim.Native.Nat.{ℕ, zero, suc, ◌+◌, ◌*◌, ◌/◌, ◌%◌, ◌^◌, ◌≤◌, ◌<◌}
use mathlib.Core.Path.{◌≡◌, refl, sym, ◌∙◌, ap}
use mathlib.Core.List.{List, [], ◌∷◌, ◌++◌, append_assoc, append-nil, map, map-append}
use native.Mathlib.Decide.{dec_lt}
use native.Mathlib.Nat.{pow-suc, mul-suc, mul-div_right, div-add-mod}
use native.Mathlib.Omega.{arith}
use lib.ListN.{length, get_or, take, drop, replicate, length-append, length-take, length-drop, replicate-append-replicate, get_or-eq_default, get_or-map}
use lib.Seq.{take-suc, drop-nil, take_all, take_at, drop-append-add, take-add, get_or-take, get_or-drop}
use lib.IntN.{ℤ, pos}
use mir.Syntax.{w64}
use mir.Val.{SFits, to_z, of_z}
use mir.ValLaws.{of_z_fits, of_z-to_z, to_z-of_z}
use Rattle.rules.specs.Outcome.{over}
use Rattle.octets.specs.Octets.{bytes_in, number_of, bytes_of, word_at, words_below, words_of, signed_bytes_of, signed_words_of, AllBelow}

-- ── one number ──

pub length_in : (size x : ℕ) → length (bytes_in size x) ≡ size
unfolding bytes_in
length_in zero x = refl
length_in (suc size) x = ap suc (length_in size (x / 256))

-- what was written is read
pub number_bytes : (size x : ℕ) → x < 256 ^ size → number_of (bytes_in size x) ≡ x
unfolding bytes_in number_of
number_bytes zero x small = omega arith
number_bytes (suc size) x small =
    let more = pow-suc 256 size in
    let higher = number_bytes size (x / 256) (omega arith) in
    omega arith

-- what was read is written
pub bytes_number : (bytes : List ℕ) → AllBelow 256 bytes → bytes_in (length bytes) (number_of bytes) ≡ bytes
unfolding bytes_in number_of
bytes_number [] small = refl
bytes_number (b ∷ bs) small =
    let first = small 0 in
    let low : (b + 256 * number_of bs) % 256 ≡ b = omega arith in
    let high : (b + 256 * number_of bs) / 256 ≡ number_of bs = omega arith in
    rw (low, high, bytes_number bs (λ i. small (suc i)))

number_small : (bytes : List ℕ) → AllBelow 256 bytes → number_of bytes < 256 ^ length bytes
unfolding number_of
number_small [] small = omega arith
number_small (b ∷ bs) small =
    let first = small 0 in
    let more = pow-suc 256 (length bs) in
    let higher = number_small bs (λ i. small (suc i)) in
    omega arith

-- ── words ──

pub length_bytes : (size : ℕ) (words : List ℕ) → length (bytes_of size words) ≡ size * length words
unfolding bytes_of
length_bytes size [] = omega arith
length_bytes size (w ∷ ws) =
    let rest = length_bytes size ws in
    let more = mul-suc size (length ws) in
    simp (length-append, length_in) (omega arith)

pub length_below : (size : ℕ) (bytes : List ℕ) (n : ℕ) → length (words_below size bytes n) ≡ n
unfolding words_below
length_below size bytes zero = refl
length_below size bytes (suc n) = let before = length_below size bytes n in simp length-append (omega arith)

pub length_words : (size : ℕ) (bytes : List ℕ) → length (words_of size bytes) ≡ length bytes / size
unfolding words_of
length_words size bytes = length_below size bytes (length bytes / size)

bytes_append : (size : ℕ) (words more : List ℕ) → bytes_of size (words ++ more) ≡ bytes_of size words ++ bytes_of size more
unfolding bytes_of
bytes_append size [] more = refl
bytes_append size (w ∷ ws) more = rw (bytes_append size ws more) (sym (append_assoc (bytes_in size w) (bytes_of size ws) (bytes_of size more)))

-- one word more, at the end
pub bytes_more : (size : ℕ) (words : List ℕ) (word : ℕ) → bytes_of size (words ++ word ∷ []) ≡ bytes_of size words ++ bytes_in size word
unfolding bytes_of
bytes_more size words word = bytes_append size words (word ∷ []) ∙ rw (append-nil (bytes_in size word))

-- what was written is read
module _ (size : ℕ) where
  read_at : (words : List ℕ) (i : ℕ) → AllBelow (256 ^ size) words → i < length words → word_at size (bytes_of size words) i ≡ get_or words i 0
  unfolding bytes_of word_at
  read_at [] i small inside = absurd (omega arith)
  read_at (w ∷ ws) zero small inside =
      let none : size * 0 ≡ 0 = omega arith in
      rw (none, take_at (bytes_in size w) (bytes_of size ws) size (length_in size w)) (number_bytes size w (small 0))
  read_at (w ∷ ws) (suc i) small inside =
      let next : size * suc i ≡ length (bytes_in size w) + size * i = omega (arith, mul-suc size i, length_in size w) in
      rw (next, drop-append-add) (read_at ws i (λ j. small (suc j)) (omega arith))

  read_below : (words : List ℕ) (n : ℕ) → AllBelow (256 ^ size) words → n ≤ length words → words_below size (bytes_of size words) n ≡ take n words
  unfolding words_below
  read_below words zero small inside = refl
  read_below words (suc n) small inside =
      rw (read_below words n small (omega arith), read_at words n small (omega arith)) (sym (take-suc words n 0 (omega arith)))

  pub read_written : (words : List ℕ) → 0 < size → AllBelow (256 ^ size) words → words_of size (bytes_of size words) ≡ words
  unfolding words_of
  read_written words some small =
      let all : length (bytes_of size words) / size ≡ length words = rw (length_bytes size words) (mul-div_right (length words) some) in
      rw all (read_below words (length words) small (omega arith) ∙ take_all (length words) words (omega arith))

-- what was read is written
module _ (size : ℕ) (bytes : List ℕ) (small : AllBelow 256 bytes) where
  abbrev part : ℕ → List ℕ
  part i = take size (drop (size * i) bytes)

  part_small : (i : ℕ) → AllBelow 256 (part i)
  part_small i j = go (dec_lt j size)
    where
      go : Dec (j < size) → get_or (part i) j 0 < 256
      go (yes inside) = rw (get_or-take size (drop (size * i) bytes) j 0 inside, get_or-drop) (small (size * i + j))
      go (no outside) =
          let past : length (part i) ≤ j = simp length-take (omega arith) in
          rw (get_or-eq_default (part i) 0 past) (omega arith)

  part_length : (i : ℕ) → size * i + size ≤ length bytes → length (part i) ≡ size
  part_length i inside = simp (length-take, length-drop) (omega arith)

  written_below : (n : ℕ) → size * n ≤ length bytes → bytes_of size (words_below size bytes n) ≡ take (size * n) bytes
  unfolding words_below word_at bytes_of
  written_below zero inside = let none : size * 0 ≡ 0 = omega arith in rw none refl
  written_below (suc n) inside =
      let next : size * suc n ≡ size * n + size = omega (arith, mul-suc size n) in
      let long = part_length n (omega arith) in
      bytes_more size (words_below size bytes n) (number_of (part n))
      ∙ rw (written_below n (omega arith), next, take-add) (ap (λ (l : List ℕ). take (size * n) bytes ++ l) (rw long at (bytes_number (part n) (part_small n))))

  pub written_read : 0 < size → length bytes % size ≡ 0 → bytes_of size (words_of size bytes) ≡ bytes
  unfolding words_of
  written_read some whole =
      let all : size * (length bytes / size) ≡ length bytes = omega (arith, div-add-mod (length bytes) size) in
      written_below (length bytes / size) (omega arith) ∙ rw all (take_all (length bytes) bytes (omega arith))

  -- a word that is whole is one of so many bytes
  word_small : (i : ℕ) → size * i + size ≤ length bytes → word_at size bytes i < 256 ^ size
  unfolding word_at
  word_small i inside = rw (part_length i inside) at (number_small (part i) (part_small i))

-- ── words over others ──

bytes_drop : (size k : ℕ) (words : List ℕ) → bytes_of size (drop k words) ≡ drop (size * k) (bytes_of size words)
unfolding bytes_of
bytes_drop size zero words = let none : size * 0 ≡ 0 = omega arith in rw none refl
bytes_drop size (suc k) [] = sym (drop-nil (size * suc k))
bytes_drop size (suc k) (w ∷ ws) =
    let next : size * suc k ≡ length (bytes_in size w) + size * k = omega (arith, mul-suc size k, length_in size w) in
    rw (next, drop-append-add) (bytes_drop size k ws)

-- bytes of words over others are bytes over others, where these are the words that were read
pub over_bytes : (size : ℕ) (words others bytes : List ℕ) → bytes_of size others ≡ bytes → bytes_of size (over words others) ≡ over (bytes_of size words) bytes
unfolding over
over_bytes size words others bytes written =
    bytes_append size words (drop (length words) others) ∙ rw (bytes_drop size (length words) others, written, length_bytes)

zero_in : (size : ℕ) → bytes_in size 0 ≡ replicate size 0
unfolding bytes_in
zero_in zero = refl
zero_in (suc size) = ap (λ (l : List ℕ). 0 ∷ l) (zero_in size)

pub zero_bytes : (size n : ℕ) → bytes_of size (replicate n 0) ≡ replicate (size * n) 0
unfolding bytes_of
zero_bytes size zero = let none : size * 0 ≡ 0 = omega arith in rw none refl
zero_bytes size (suc n) =
    let next : size * suc n ≡ size + size * n = omega (arith, mul-suc size n) in
    rw (zero_in size, zero_bytes size n, next) (replicate-append-replicate size (size * n) 0)

-- ── signed words ──

map_drop : (f : ℤ → ℕ) (k : ℕ) (l : List ℤ) → map f (drop k l) ≡ drop k (map f l)
map_drop f zero l = refl
map_drop f (suc k) [] = refl
map_drop f (suc k) (x ∷ xs) = map_drop f k xs

pub length_map : {A B : Type 0} (f : A → B) (l : List A) → length (map f l) ≡ length l
length_map f [] = refl
length_map f (x ∷ xs) = ap suc (length_map f xs)

pub length_signed : (bytes : List ℕ) → length (signed_words_of bytes) ≡ length bytes / 8
unfolding signed_words_of
length_signed bytes = length_map (to_z w64) (words_of 8 bytes) ∙ length_words 8 bytes

-- the bits of signed words that were read are the words
bits_below : (bytes : List ℕ) (n : ℕ) → AllBelow 256 bytes → 8 * n ≤ length bytes
    → map (of_z w64) (map (to_z w64) (words_below 8 bytes n)) ≡ words_below 8 bytes n
unfolding words_below
bits_below bytes zero small inside = refl
bits_below bytes (suc n) small inside =
    let word = word_at 8 bytes n in
    let same : of_z w64 (to_z w64 word) ≡ word = of_z-to_z w64 word (record { fits = word_small 8 bytes small n (omega arith) }) in
    rw (map-append, map-append, bits_below bytes n small (omega arith), same)

-- what was read is written
pub signed_written_read : (bytes : List ℕ) → AllBelow 256 bytes → length bytes % 8 ≡ 0 → signed_bytes_of (signed_words_of bytes) ≡ bytes
unfolding signed_bytes_of signed_words_of words_of
signed_written_read bytes small whole =
    rw (bits_below bytes (length bytes / 8) small (omega arith)) (written_read 8 bytes small (omega arith) whole)

-- what was written is read
pub signed_read_written : (words : List ℤ) → ((i : ℕ) → SFits w64 (get_or words i (pos 0))) → signed_words_of (signed_bytes_of words) ≡ words
unfolding signed_bytes_of signed_words_of
signed_read_written words fit =
    rw (read_written 8 (map (of_z w64) words) (omega arith) (λ i. rw (get_or-map (of_z w64) words i (pos 0)) (of_z_fits w64 (get_or words i (pos 0)) (fit i)).fits))
    (back words fit)
  where
    back : (l : List ℤ) → ((i : ℕ) → SFits w64 (get_or l i (pos 0))) → map (to_z w64) (map (of_z w64) l) ≡ l
    back [] fit = refl
    back (x ∷ xs) fit = rw (to_z-of_z w64 x (fit 0), back xs (λ i. fit (suc i)))

pub over_signed : (words others : List ℤ) (bytes : List ℕ) → signed_bytes_of others ≡ bytes → signed_bytes_of (over words others) ≡ over (signed_bytes_of words) bytes
unfolding signed_bytes_of over
over_signed words others bytes written =
    rw (map-append, map_drop, ← length_map (of_z w64) words) (over_bytes 8 (map (of_z w64) words) (map (of_z w64) others) bytes written)
