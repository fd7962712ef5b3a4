-- How many numbers and heaps there are.
use Rattle.std.specs.Prelude.{ℕ}

-- the numbers, 0 among them, which is in no heap
abbrev pub most_members : ℕ
most_members = 256

abbrev pub most_heaps : ℕ
most_heaps = 512
