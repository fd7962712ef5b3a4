-- What each routine states of its result, which is all of it.
use Rattle.std.specs.Prelude.{ℕ, ◌+◌, ◌≡◌, Bool, List}
use Rattle.input.specs.Limits.{ticks_a_step}
use Rattle.input.specs.Shares.{rounded_up}
use Rattle.sheet.specs.Paper.{Figure}
use Rattle.sheet.specs.Paper.{worked, dividing}

abbrev pub Works : ℕ → List ℕ → List ℕ → ℕ → ℕ → ℕ → ℕ → Figure → Type 0
Works steps parents shares row largest own more r = r ≡ worked steps parents shares largest more row own

abbrev pub RoundsUp : Figure → ℕ → Type 0
RoundsUp figure r = r ≡ rounded_up figure.numerator figure.denominator

-- as many as a step has at most where a class finished so many packets
abbrev pub Ticks : ℕ → ℕ → Type 0
Ticks packets r = r ≡ packets + ticks_a_step

abbrev pub Divides : ℕ → List ℕ → List ℕ → ℕ → Bool → Type 0
Divides steps parents shares row r = r ≡ dividing steps parents shares row
