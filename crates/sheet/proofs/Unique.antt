-- Each contract leaves no choice.
-- Assumes nothing.
use Prim.Native.Nat.{ℕ, ◌+◌}
use mathlib.Core.List.{List}
use Rattle.words.specs.Unique.{Unique}
use Rattle.words.proofs.Determined.{determined}
use Rattle.input.specs.Limits.{ticks_a_step}
use Rattle.input.specs.Shares.{rounded_up}
use Rattle.sheet.specs.Paper.{Figure}
use Rattle.sheet.specs.Paper.{worked, dividing}
use Rattle.sheet.specs.Stated.{Works, RoundsUp, Ticks, Divides}

pub one_figure : (steps : ℕ) (parents shares : List ℕ) (row largest own more : ℕ) → Unique (Works steps parents shares row largest own more)
one_figure steps parents shares row largest own more = determined (worked steps parents shares largest more row own)

pub one_rounding : (figure : Figure) → Unique (RoundsUp figure)
one_rounding figure = determined (rounded_up figure.numerator figure.denominator)

pub one_tick_count : (packets : ℕ) → Unique (Ticks packets)
one_tick_count packets = determined (packets + ticks_a_step)

pub one_division : (steps : ℕ) (parents shares : List ℕ) (row : ℕ) → Unique (Divides steps parents shares row)
one_division steps parents shares row = determined (dividing steps parents shares row)
