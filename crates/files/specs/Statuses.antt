-- How a program ends, and what it hands over for that.
use Rattle.std.specs.Prelude.{ℕ, Bool, cond, Result, Ok, Err, ⊤}
use Rattle.files.specs.declared.Stopped.{Stopped}
use Rattle.files.specs.declared.Stopped.TheVariants.{Refused, Failed}

-- a refusal whose answer was written or not
abbrev pub refused : Bool → Stopped
refused written = cond written Refused Failed

-- the digits 0, 1 and 2 as bytes
unfoldable pub digit : Result ⊤ Stopped → ℕ
digit (Ok done) = 48
digit (Err Refused) = 49
digit (Err Failed) = 50
