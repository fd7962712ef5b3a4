-- What each routine states of its result, which is all of it.
use Rattle.std.specs.Prelude.{ℕ, ◌≡◌, Bool, List, Result}
use Rattle.text.specs.declared.Field.{Field}
use Rattle.text.specs.declared.Fault.{Fault}
use Rattle.text.specs.declared.Scan.{Scan}
use Rattle.text.specs.Reading.{Found, field_of, unread, after, at_end, wrong}

abbrev pub Begins : Scan → Type 0
Begins r = r ≡ unread

abbrev pub Feeds : Scan → ℕ → Scan → Type 0
Feeds scan byte r = r ≡ after scan byte

abbrev pub Finishes : Scan → Result (Unit {0}) Fault → Type 0
Finishes scan r = r ≡ at_end scan

abbrev pub Faults : Found → Bool → Type 0
Faults found r = r ≡ wrong found

abbrev pub Numbers : List ℕ → Field → Type 0
Numbers bytes r = r ≡ field_of bytes
