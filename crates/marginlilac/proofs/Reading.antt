-- The first words of an array, once words were read over them.
-- Assumes nothing.
use Prim.Native.Nat.{ℕ, ◌/◌}
use mathlib.Core.Path.{◌≡◌, sym, ◌∙◌, ap}
use mathlib.Core.List.{List}
use lib.ListN.{length, take}
use Rattle.rules.specs.Outcome.{over}
use Rattle.laws.proofs.Outcome.Results.{over_first}
use Rattle.octets.specs.Octets.{words_of}
use Rattle.octets.proofs.Laws.{length_words}

module _ (bytes array words : List ℕ) (read : words ≡ over (words_of 4 bytes) array) where
  -- as many as are whole
  pub words_are : take (length bytes / 4) words ≡ words_of 4 bytes
  words_are = rw (read, ← length_words 4 bytes) (over_first (words_of 4 bytes) array)

  pub words_many : length bytes / 4 ≡ length (take (length bytes / 4) words)
  words_many = sym (ap length words_are ∙ length_words 4 bytes)
