-- What the routines answer as figures: a fraction that fits, or none.
use Rattle.std.specs.Prelude.{Option, None, Some}
use Rattle.rules.specs.Promise.{Ratio}
use Rattle.sheet.specs.declared.fraction.Fraction.{Fraction}
use Rattle.sheet.specs.Paper.{Figure, fraction, figure, outgrown}

abbrev pub terms : Fraction → Ratio
terms f = fraction f.numerator f.denominator

abbrev pub figure_of : Option Fraction → Figure
figure_of None = outgrown
figure_of (Some f) = figure (terms f)
