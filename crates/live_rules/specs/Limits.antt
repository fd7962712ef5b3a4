-- The limits of the live box, each a named number.
use Rattle.std.specs.Prelude.{ℕ}

-- packets that it can hold at a time
abbrev pub most_held : ℕ
most_held = 1024

-- packets that it accepts in all
abbrev pub most_accepted : ℕ
most_accepted = 2147483647
