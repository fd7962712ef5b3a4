-- Words and their bytes, worked.
-- Assumes nothing.
use mathlib.Core.Path.{◌≡◌, refl}
use mathlib.Core.List.{[], ◌∷◌}
use lib.IntN.{pos, negsuc}
use Rattle.octets.specs.Octets.{bytes_in, number_of, bytes_of, word_at, words_below, words_of, signed_bytes_of, signed_words_of}

-- 0x12345678
pub lowest_first : bytes_of 4 (305419896 ∷ []) ≡ 120 ∷ 86 ∷ 52 ∷ 18 ∷ []
unfolding bytes_of bytes_in
lowest_first = refl

-- a byte too many makes no word
pub read_whole : words_of 4 (120 ∷ 86 ∷ 52 ∷ 18 ∷ 1 ∷ []) ≡ 305419896 ∷ []
unfolding words_of words_below word_at number_of
read_whole = refl

-- -2
pub below_nothing : signed_bytes_of (negsuc 1 ∷ []) ≡ 254 ∷ 255 ∷ 255 ∷ 255 ∷ 255 ∷ 255 ∷ 255 ∷ 255 ∷ []
unfolding signed_bytes_of bytes_of bytes_in
below_nothing = refl

pub read_signed : signed_words_of (254 ∷ 255 ∷ 255 ∷ 255 ∷ 255 ∷ 255 ∷ 255 ∷ 255 ∷ 3 ∷ 0 ∷ 0 ∷ 0 ∷ 0 ∷ 0 ∷ 0 ∷ 0 ∷ []) ≡ negsuc 1 ∷ pos 3 ∷ []
unfolding signed_words_of words_of words_below word_at number_of
read_signed = refl
