-- Words as bytes.
use Rattle.std.specs.Prelude.{ℕ, List, [], ◌∷◌}
use Prim.Native.Char.{code}
use Prim.Native.String.{String, [] as []ᵗ, ◌∷◌ as ◌∷ᵗ◌}

-- the bytes of some words, all of whose characters are ASCII
unfoldable pub bytes_of : String → List ℕ
bytes_of []ᵗ = []
bytes_of (character ∷ᵗ words) = code character ∷ bytes_of words
