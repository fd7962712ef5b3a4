-- The columns that a list of events is read into, with the scan as far as it is read.
use Rattle.std.specs.Prelude.{ℕ, ◌-◌, ◌≡◌, Bool, cond, List, [], ◌∷◌, set, Option, Some, None, Result, Ok, Err, is_err, IfOk}
use Rattle.text.specs.declared.Scan.{Scan}
use Rattle.text.specs.Reading.{Found, after, at_end, unread}
use Rattle.files.specs.declared.Stopped.{Stopped}
use Rattle.files.specs.declared.Stopped.TheVariants.{Failed}

pub record Columns : Type 0 where
  pub scan : Scan
  pub first : List ℕ
  pub second : List ℕ

abbrev pub columns_of : Scan → List ℕ → List ℕ → Columns
columns_of scan first second = record { scan = scan; first = first; second = second }

-- the place of the row that a file's last line holds: its first line is the heading
abbrev pub row_of : ℕ → ℕ
row_of lines = lines - 2

-- the columns with what a scan has found: a line of numbers is kept in its row, where the columns have it
unfoldable pub keeping : Scan → Found → List ℕ → List ℕ → Columns
keeping scan (Ok None) a b = columns_of scan a b
keeping scan (Ok (Some row)) a b = let at = row_of scan.lines in columns_of scan (set a at row.first) (set b at row.second)
keeping scan (Err fault) a b = columns_of scan a b

-- one byte more is read
unfoldable pub with_byte : Columns → ℕ → Columns
with_byte columns byte = let next = after columns.scan byte in keeping next next.found columns.first columns.second

-- some bytes more are read, one after the other
unfoldable pub with_bytes : Columns → List ℕ → Columns
with_bytes columns [] = columns
with_bytes columns (byte ∷ bytes) = with_bytes (with_byte columns byte) bytes

-- what reading leaves: which bytes the system gives nothing can say, but the columns and the scan are those of some bytes
pub record Filled (before now : Columns) : Type 0 where
  pub bytes : List ℕ
  pub same : now ≡ with_bytes before bytes

-- the scan after a read that came of it: as it was where that failed or gave no bytes
unfoldable pub scan_after : {E : Type 0} → Scan → Result (Option Scan) E → Scan
scan_after scan (Ok (Some next)) = next
scan_after scan (Ok None) = scan
scan_after scan (Err error) = scan

-- what reads leave, one after the other, until there is no more or one fails: the answered scan is that of all that was read
pub record Reads {E : Type 0} (start : Scan) (first second first' second' : List ℕ) (r : Result Scan E) : Type 0 where
  pub scan : Scan
  pub read : Filled (columns_of start first second) (columns_of scan first' second')
  pub answered : IfOk r (λ end. end ≡ scan)

-- ── what comes of a whole file ──

-- the file could not be read
abbrev pub none : Result ℕ Stopped
none = Err Failed

-- how many lines of numbers a scan has at the end of the file: all but the heading
abbrev pub rows_of : Scan → ℕ
rows_of scan = scan.lines - 1

-- a file that was read to its end is done if nothing is wrong with it
unfoldable pub judged : Scan → Result ℕ Stopped
judged scan = cond (is_err (at_end scan)) none (Ok (rows_of scan))

-- what loading leaves of two columns and answers: those of some bytes from the start of a file; and of these what they amount to,
-- unless the file was missing or a read failed
pub record Loads (first second first' second' : List ℕ) (r : Result ℕ Stopped) : Type 0 where
  pub scan : Scan
  pub read : Filled (columns_of unread first second) (columns_of scan first' second')
  pub failed : Bool
  pub outcome : r ≡ cond failed none (judged scan)
