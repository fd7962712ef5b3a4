-- How a sentence names a file, and how one on a refusal begins.
use Rattle.std.specs.Prelude.{ℕ, Bool, false, cond, List, [], ◌∷◌, ◌++◌, eqb}
use Rattle.output.specs.Numbers.{decimal}
use Rattle.output.specs.Quoted.{bytes_of}

-- the byte `-` alone
unfoldable pub is_input : List ℕ → Bool
is_input [] = false
is_input (byte ∷ []) = eqb byte 45
is_input (byte ∷ next ∷ name) = false

-- a name as it was given, or what `-` stands for
unfoldable pub shown : List ℕ → List ℕ
shown name = cond (is_input name) (bytes_of "standard input") name

-- no name is no file
unfoldable pub in_file : List ℕ → List ℕ
in_file [] = []
in_file (byte ∷ name) = bytes_of " in " ++ shown (byte ∷ name)

unfoldable pub refused : ℕ → List ℕ → List ℕ
refused number name = (bytes_of "refused " ++ decimal number) ++ (in_file name ++ bytes_of ": ")
