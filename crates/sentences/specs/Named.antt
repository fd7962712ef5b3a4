-- What a sentence looks up in a table or in its text.
use Rattle.std.specs.Prelude.{ℕ, zero, suc, ◌+◌, Bool, true, false, cond, not, ◌&&◌, List, ltb, eqb, length, get_or, take}
use Rattle.input.specs.Limits.{most_rows}
use Rattle.input.specs.Classes.{place_of}
use Rattle.forms.specs.declared.Place.{Place}
use Rattle.forms.specs.declared.Place.TheVariants.{Heading, Due, Number, Return, Fault}

-- the row with an identifier, as far as a table can have rows; 0 past them
unfoldable pub row_with : ℕ → List ℕ → ℕ
row_with identifier identifiers =
    let row = place_of identifier identifiers in cond (ltb row most_rows) row 0

-- whether a row looks like a class and not like the line
unfoldable pub as_a_class : ℕ → ℕ → Bool
as_a_class parent share = not (eqb parent 0) && not (eqb share 0)

-- the first row above this one that has its parent's identifier; the row itself where there is none, or past the table's end
unfoldable pub parent_row : ℕ → List ℕ → ℕ → ℕ
parent_row row identifiers parent = cond (ltb row (length identifiers)) (place_of parent (take row identifiers)) row

-- whether a row, whose parent has this identifier, is a child of a row above it
unfoldable pub child_of : ℕ → ℕ → List ℕ → ℕ → Bool
child_of row child identifiers parent = ltb row child && eqb (parent_row child identifiers parent) row

abbrev pub share_under : ℕ → ℕ → List ℕ → ℕ → ℕ → ℕ
share_under row child identifiers parent share = cond (child_of row child identifiers parent) share 0

-- the shares of a row's children among the first rows, added up
unfoldable pub shares_under : ℕ → List ℕ → List ℕ → List ℕ → ℕ → ℕ
shares_under row identifiers parents shares zero = 0
shares_under row identifiers parents shares (suc child) =
    shares_under row identifiers parents shares child
    + share_under row child identifiers (get_or parents child 0) (get_or shares child 0)

-- a scan stands behind a fault
unfoldable pub faulty : Place → Bool
faulty (Heading read) = false
faulty (Due field) = false
faulty (Number field n) = false
faulty Return = false
faulty (Fault number) = true

-- the byte of the heading or the field that a scan stands in, counted from 1
unfoldable pub counted : Place → ℕ
counted (Heading read) = read + 1
counted (Due field) = field + 1
counted (Number field n) = field + 1
counted Return = 0
counted (Fault number) = 0
