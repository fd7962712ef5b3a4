-- Bytes that are read in two goes are read as all of them in one.
-- Assumes nothing.
use Prim.Native.Nat.{ℕ}
use mathlib.Core.Path.{◌≡◌, refl, ap, ◌∙◌}
use mathlib.Core.List.{List, [], ◌∷◌, ◌++◌}
use Rattle.std.specs.Prelude.{Option, Result, Ok, Err, IsErr}
use Rattle.std.proofs.lemmas.Result.{IfOk-from_err}
use Rattle.text.specs.declared.Scan.{Scan}
use Rattle.files.specs.Columns.{Columns, columns_of, scan_after, with_byte, with_bytes, Filled, Reads}

pub joined : (columns : Columns) (a b : List ℕ) → with_bytes (with_bytes columns a) b ≡ with_bytes columns (a ++ b)
unfolding with_bytes
joined columns [] b = refl
joined columns (byte ∷ a) b = joined (with_byte columns byte) a b

-- as long as nothing is read
pub nothing : (columns : Columns) → Filled columns columns
unfolding with_bytes
nothing columns = record { bytes = []; same = refl }

-- these bytes are read
pub bytes_read : {before now : Columns} (bytes : List ℕ) → now ≡ with_bytes before bytes → Filled before now
bytes_read bytes same = record { bytes = bytes; same = same }

-- a read that failed gives no bytes
pub unread_scan : {E : Type 0} (scan : Scan) (r : Result (Option Scan) E) → IsErr r → scan_after scan r ≡ scan
unfolding scan_after
unread_scan scan (Ok next) failed = cc
unread_scan scan (Err error) failed = refl

-- reads to the end of a file
pub ended_reads :
    {E : Type 0} {start end : Scan} {first second first' second' : List ℕ}
    → Filled (columns_of start first second) (columns_of end first' second') → Reads {E = E} start first second first' second' (Ok end)
ended_reads {end = end} read = record { scan = end; read = read; answered = refl }

-- reads of which the last failed
pub failed_reads :
    {E : Type 0} {start end : Scan} {first second first' second' : List ℕ} (r : Result Scan E)
    → Filled (columns_of start first second) (columns_of end first' second') → IsErr r
    → Reads start first second first' second' r
failed_reads {end = end} r read failed = record { scan = end; read = read; answered = IfOk-from_err r _ failed }

-- what is read, and then more
pub more : {first second third : Columns} → Filled first second → Filled second third → Filled first third
more {first} one two =
    record {
      bytes = one.bytes ++ two.bytes;
      same =
          two.same
          ∙ ap (λ (columns : Columns). with_bytes columns two.bytes) one.same
          ∙ joined first one.bytes two.bytes;
    }
