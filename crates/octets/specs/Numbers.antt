-- Words of one kind as numbers and back, for each kind: the number itself, or the bits of a signed word.
use Rattle.std.specs.Prelude.{ℕ, List, [], ◌∷◌, map, ◌≡◌, refl, ℤ}
use Rattle.std.specs.Int.{w64}
use Rattle.std.proofs.Common.{to_z, of_z, ap}
use Rattle.octets.specs.Octets.{bytes_of, words_of, signed_bytes_of, signed_words_of}

map_same : (l : List ℕ) → l ≡ map (λ x. x) l
map_same [] = refl
map_same (x ∷ xs) = ap (λ (l : List ℕ). x ∷ l) (map_same xs)

pub same_words : (size : ℕ) (bytes : List ℕ) → words_of size bytes ≡ map (λ x. x) (words_of size bytes)
same_words size bytes = map_same (words_of size bytes)

pub same_bytes : (size : ℕ) (words : List ℕ) → bytes_of size words ≡ bytes_of size (map (λ x. x) words)
same_bytes size words = ap (bytes_of size) (map_same words)

pub signed_words : (bytes : List ℕ) → signed_words_of bytes ≡ map (to_z w64) (words_of 8 bytes)
unfolding signed_words_of
signed_words bytes = refl

pub signed_bytes : (words : List ℤ) → signed_bytes_of words ≡ bytes_of 8 (map (of_z w64) words)
unfolding signed_bytes_of
signed_bytes words = refl
