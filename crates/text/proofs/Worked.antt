-- Some files read by the definitions: what their last byte and their end show, and how many good lines they have.
-- Assumes nothing.
use Prim.Native.Nat.{ℕ}
use mathlib.Core.Path.{◌≡◌, refl}
use mathlib.Core.List.{List, [], ◌∷◌, ◌++◌, map}
use Rattle.std.specs.Prelude.{Result, Ok, Err}
use Rattle.text.specs.declared.Fault.{Fault}
use Rattle.text.specs.declared.Fault.TheVariants.{NoEnd, WrongHeading, WrongCount, NoNumber, TooLarge}
use Rattle.text.specs.declared.Scan.{Scan}
use Rattle.text.specs.Reading

-- what a file's last byte shows, what its end shows, and its good lines
record Read : Type 0 where
  last : Reading.Found
  end : Result (Unit {0}) Fault
  lines : ℕ

read : Scan → Read
read scan = record { last = scan.found; end = Reading.at_end scan; lines = scan.lines }

-- a list of events with these bytes under its heading
events : List ℕ → Read
events bytes = read (Reading.after_all Reading.unread (Reading.heading ++ (10 ∷ bytes)))

files : List (List ℕ)
files =
    []
    -- 7,42 with an LF; 007,42 with a CR LF
    ∷ (55 ∷ 44 ∷ 52 ∷ 50 ∷ 10 ∷ [])
    ∷ (48 ∷ 48 ∷ 55 ∷ 44 ∷ 52 ∷ 50 ∷ 13 ∷ 10 ∷ [])
    -- 7,42 with no end; with a CR; with CR CR LF; with a CR inside
    ∷ (55 ∷ 44 ∷ 52 ∷ 50 ∷ [])
    ∷ (55 ∷ 44 ∷ 52 ∷ 50 ∷ 13 ∷ [])
    ∷ (55 ∷ 44 ∷ 52 ∷ 50 ∷ 13 ∷ 13 ∷ 10 ∷ [])
    ∷ (55 ∷ 13 ∷ 44 ∷ 52 ∷ 50 ∷ 10 ∷ [])
    -- a blank line; x alone; 7,42,1; a comma alone
    ∷ (10 ∷ [])
    ∷ (120 ∷ 10 ∷ [])
    ∷ (55 ∷ 44 ∷ 52 ∷ 50 ∷ 44 ∷ 49 ∷ 10 ∷ [])
    ∷ (44 ∷ 10 ∷ [])
    -- 4294967295,x; 4294967296,x; x,4294967296, and a good line after it
    ∷ (52 ∷ 50 ∷ 57 ∷ 52 ∷ 57 ∷ 54 ∷ 55 ∷ 50 ∷ 57 ∷ 53 ∷ 44 ∷ 120 ∷ 10 ∷ [])
    ∷ (52 ∷ 50 ∷ 57 ∷ 52 ∷ 57 ∷ 54 ∷ 55 ∷ 50 ∷ 57 ∷ 54 ∷ 44 ∷ 120 ∷ 10 ∷ [])
    ∷ (120 ∷ 44 ∷ 52 ∷ 50 ∷ 57 ∷ 52 ∷ 57 ∷ 54 ∷ 55 ∷ 50 ∷ 57 ∷ 54 ∷ 10 ∷ 55 ∷ 44 ∷ 55 ∷ 10 ∷ [])
    -- 0,4294967295 and 7,0
    ∷ (48 ∷ 44 ∷ 52 ∷ 50 ∷ 57 ∷ 52 ∷ 57 ∷ 54 ∷ 55 ∷ 50 ∷ 57 ∷ 53 ∷ 10 ∷ 55 ∷ 44 ∷ 48 ∷ 10 ∷ [])
    ∷ []

found : List Read
found =
    record { last = Reading.nothing; end = Ok tt; lines = 1 }
    ∷ record { last = Reading.row 7 42; end = Ok tt; lines = 2 }
    ∷ record { last = Reading.row 7 42; end = Ok tt; lines = 2 }
    ∷ record { last = Reading.nothing; end = Err NoEnd; lines = 1 }
    ∷ record { last = Reading.nothing; end = Err NoEnd; lines = 1 }
    ∷ record { last = Err (NoNumber 2); end = Err (NoNumber 2); lines = 1 }
    ∷ record { last = Err (NoNumber 1); end = Err (NoNumber 1); lines = 1 }
    ∷ record { last = Err WrongCount; end = Err WrongCount; lines = 1 }
    ∷ record { last = Err WrongCount; end = Err WrongCount; lines = 1 }
    ∷ record { last = Err WrongCount; end = Err WrongCount; lines = 1 }
    ∷ record { last = Err (NoNumber 1); end = Err (NoNumber 1); lines = 1 }
    ∷ record { last = Err (NoNumber 2); end = Err (NoNumber 2); lines = 1 }
    ∷ record { last = Err (TooLarge 1); end = Err (TooLarge 1); lines = 1 }
    ∷ record { last = Err (NoNumber 1); end = Err (NoNumber 1); lines = 1 }
    ∷ record { last = Reading.row 7 0; end = Ok tt; lines = 3 }
    ∷ []

worked : map events files ≡ found
unfolding read events files found Reading.heading Reading.with_digit Reading.with_byte Reading.agreed_with
    Reading.commas_with Reading.field_with Reading.grown Reading.settled Reading.longer Reading.heading_shown Reading.number_in
    Reading.row_of Reading.numbers Reading.shown Reading.lines_after Reading.ended Reading.within Reading.after
    Reading.at_end Reading.after_all
worked = refl

-- nothing at all; the heading and no line end; another heading; 1,0 under the heading with a CR LF
whole_files : List (List ℕ)
whole_files =
    []
    ∷ Reading.heading
    ∷ (120 ∷ 10 ∷ [])
    ∷ (Reading.heading ++ (13 ∷ 10 ∷ 49 ∷ 44 ∷ 48 ∷ 10 ∷ []))
    ∷ []

worked_whole :
    map (λ (bytes : List ℕ). read (Reading.after_all Reading.unread bytes)) whole_files
    ≡ record { last = Reading.nothing; end = Err WrongHeading; lines = 0 }
    ∷ record { last = Reading.nothing; end = Err NoEnd; lines = 0 }
    ∷ record { last = Err WrongHeading; end = Err WrongHeading; lines = 0 }
    ∷ record { last = Reading.row 1 0; end = Ok tt; lines = 2 }
    ∷ []
unfolding read whole_files Reading.heading Reading.with_digit Reading.with_byte Reading.agreed_with
    Reading.commas_with Reading.field_with Reading.grown Reading.settled Reading.longer Reading.heading_shown Reading.number_in
    Reading.row_of Reading.numbers Reading.shown Reading.lines_after Reading.ended Reading.within Reading.after
    Reading.at_end Reading.after_all
worked_whole = refl
