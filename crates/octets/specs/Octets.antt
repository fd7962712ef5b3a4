-- Words as bytes, the lowest first, and back: numbers, lists of words of one size, and signed words.
use Rattle.std.specs.Prelude.{ℕ, zero, suc, ◌+◌, ◌*◌, ◌/◌, ◌%◌, ◌<◌, List, [], ◌∷◌, ◌++◌, map, length, get_or, take, drop, ℤ}
use Rattle.std.specs.Int.{w64}
use Rattle.std.proofs.Common.{to_z, of_z}

-- a number's lowest so many bytes, the lowest first
unfoldable pub bytes_in : ℕ → ℕ → List ℕ
bytes_in zero number = []
bytes_in (suc size) number = number % 256 ∷ bytes_in size (number / 256)

-- the number that these bytes are, the lowest first
unfoldable pub number_of : List ℕ → ℕ
number_of [] = 0
number_of (byte ∷ higher) = byte + 256 * number_of higher

-- the bytes of words of this size
unfoldable pub bytes_of : ℕ → List ℕ → List ℕ
bytes_of size [] = []
bytes_of size (word ∷ words) = bytes_in size word ++ bytes_of size words

-- the word of this size at place i
unfoldable pub word_at : ℕ → List ℕ → ℕ → ℕ
word_at size bytes i = number_of (take size (drop (size * i) bytes))

-- the first n words of this size
unfoldable pub words_below : ℕ → List ℕ → ℕ → List ℕ
words_below size bytes zero = []
words_below size bytes (suc i) = words_below size bytes i ++ word_at size bytes i ∷ []

-- the words of this size, as many as are whole
unfoldable pub words_of : ℕ → List ℕ → List ℕ
words_of size bytes = words_below size bytes (length bytes / size)

-- signed words of eight bytes: one below 0 is written as 2^64 more
unfoldable pub signed_bytes_of : List ℤ → List ℕ
signed_bytes_of words = bytes_of 8 (map (of_z w64) words)

unfoldable pub signed_words_of : List ℕ → List ℤ
signed_words_of bytes = map (to_z w64) (words_of 8 bytes)

-- every entry is below this
abbrev pub AllBelow : ℕ → List ℕ → Type 0
AllBelow limit list = (i : ℕ) → get_or list i 0 < limit
